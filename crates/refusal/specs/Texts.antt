-- How a refusal is printed. Assumes nothing.
--   refusal_text r    its number, its detail and the number of its layer
use Rattle.std.specs.Prelude.{ℕ, List, ◌++◌, codes}
use Rattle.std.specs.Fmt.{decimal}
use Rattle.refusal.specs.Layers.{layer_number}
use Rattle.refusal.specs.declared.refusal.Refusal.{Refusal}

-- as in `23 4, layer 1`
abbrev pub refusal_text : Refusal → List ℕ
refusal_text r = decimal r.number ++ codes " " ++ decimal r.detail ++ codes ", layer " ++ decimal (layer_number r.layer)
