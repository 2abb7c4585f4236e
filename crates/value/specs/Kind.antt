-- What building answers, for every kind. Assumes nothing.
--   built v n       the value v, or the refusal of n parts where there is none
--   widest b        the largest number of b bits
use Rattle.std.specs.Prelude.{ℕ, ◌-◌, ◌^◌, Option, Result}
use Rattle.std.specs.Option.{ok_or}
use Rattle.value.specs.declared.fault.ValueFault.{ValueFault}
use Rattle.value.specs.declared.fault.ValueFault.TheVariants.{NoValue}

-- the value, or a refusal that tells how many parts were given
abbrev pub built : {V : Type 0} → Option V → ℕ → Result V ValueFault
built v n = ok_or v (NoValue n)

-- the largest number of so many bits
abbrev pub widest : ℕ → ℕ
widest bits = 2 ^ bits - 1
