-- The numbers of the layers. Assumes nothing.
--   layer_number l    1 memory or value, 2 engine, 3 reader of schedules or writer of listings
use Rattle.std.specs.Prelude.{ℕ}
use Rattle.refusal.specs.declared.layer.Layer.{Layer}
use Rattle.refusal.specs.declared.layer.Layer.TheVariants.{Data, Engine, Text}

-- the number by which a layer is told
abbrev pub layer_number : Layer → ℕ
layer_number Data = 1
layer_number Engine = 2
layer_number Text = 3
