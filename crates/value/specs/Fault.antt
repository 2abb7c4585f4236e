-- The refusal of a kind of value. Assumes nothing.
--   told f          number, detail and layer of the fault f
--   fault_text f    the same fault in words
use Rattle.std.specs.Prelude.{ℕ, List, ◌++◌, codes}
use Rattle.std.specs.Fmt.{decimal}
use Rattle.refusal.specs.declared.refusal.Refusal.{Refusal}
use Rattle.refusal.specs.declared.layer.Layer.TheVariants.{Data}
use Rattle.value.specs.declared.fault.ValueFault.{ValueFault}
use Rattle.value.specs.declared.fault.ValueFault.TheVariants.{NoValue}

-- no value has the parts given: number 6, detail how many they are, layer 1
abbrev pub told : ValueFault → Refusal
told (NoValue given) = record { number = 6; detail = given; layer = Data }

-- as in `no value has these 3 parts`
abbrev pub fault_text : ValueFault → List ℕ
fault_text (NoValue given) = codes "no value has these " ++ decimal given ++ codes " parts"
