-- Why a number is no percentage. Assumes nothing.
--   no_percent_text n    in words
use Rattle.std.specs.Prelude.{ℕ, List, ◌++◌, codes}
use Rattle.std.specs.Fmt.{decimal}

-- as in `101 is over 100 percent`
abbrev pub no_percent_text : ℕ → List ℕ
no_percent_text n = decimal n ++ codes " is over 100 percent"
