-- The stock record: a value of three parts of 32 bits. Assumes nothing.
--   stock_parts x                      on hand, promised, price
--   sound_stock hand promised price    these three make a record
--   stock_of ps                        the record with these parts
--   stock_text x                       how it is printed
use Rattle.std.specs.Prelude.{ℕ, ◌/◌, ◌%◌, Bool, ◌&&◌, List, [], ◌∷◌, ◌++◌, Some, None, Option, nat_le, codes, if◌then◌else◌}
use Rattle.std.specs.Fmt.{decimal}
use Rattle.value.specs.Kind.{widest}
use Rattle.value.specs.declared.stock_record.StockRecord.{StockRecord}

-- sheets on hand, sheets promised, price a sheet in hundredths of a cent
abbrev pub stock_parts : StockRecord → List ℕ
stock_parts x = x.on_hand ∷ x.promised ∷ x.price ∷ []

-- each part fits 32 bits, and no more is promised than there is
abbrev pub sound_stock : ℕ → ℕ → ℕ → Bool
sound_stock hand promised price = nat_le hand (widest 32) && nat_le promised hand && nat_le price (widest 32)

-- three sound parts make a record, and nothing else does
abbrev pub stock_of : List ℕ → Option StockRecord
stock_of [] = None
stock_of (a ∷ []) = None
stock_of (a ∷ b ∷ []) = None
stock_of (a ∷ b ∷ c ∷ []) =
    if sound_stock a b c then Some (record { on_hand = a; promised = b; price = c }) else None
stock_of (a ∷ b ∷ c ∷ d ∷ rest) = None

-- in cents, as in `9.40`
abbrev pub cents_text : ℕ → List ℕ
cents_text price = decimal (price / 100) ++ codes "." ++ decimal ((price / 10) % 10) ++ decimal (price % 10)

-- as in `800 sheets on hand, 0 promised, 9.40 cents a sheet`
abbrev pub stock_text : StockRecord → List ℕ
stock_text x = decimal x.on_hand ++ codes " sheets on hand, " ++ decimal x.promised ++ codes " promised, "
    ++ cents_text x.price ++ codes " cents a sheet"
