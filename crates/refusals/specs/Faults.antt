-- The eight causes of a fault in a saved file, each with its number and its layer.
use Rattle.std.specs.Prelude.{ℕ}
use Rattle.refusals.specs.declared.fault.Cause.{Cause}
use Rattle.refusals.specs.declared.fault.Cause.TheVariants as cause
use Rattle.refusals.specs.declared.fault.Fault.{Fault}
use Rattle.refusals.specs.declared.fault.Layer.{Layer}
use Rattle.refusals.specs.declared.fault.Layer.TheVariants as layer

abbrev pub cause_number : Cause → ℕ
-- a count or a record is cut off by the end of the file
cause_number cause.NotWhole = 1
-- the count of section 1 is not 1, or that of section 2 is over 3,072
cause_number cause.Count = 2
-- the kind is not the one expected
cause_number cause.Kind = 3
-- the sizes are not those expected
cause_number cause.Sizes = 4
-- the place is outside the sizes
cause_number cause.Place = 5
-- the code is not valid in the kind
cause_number cause.Code = 6
-- the place does not come after that of the record before
cause_number cause.NotAfter = 7
-- bytes stand after the last record
cause_number cause.LeftOver = 8

abbrev pub layer_of : Cause → Layer
layer_of cause.NotWhole = layer.Bytes
layer_of cause.Count = layer.Section
layer_of cause.Kind = layer.Sheet
layer_of cause.Sizes = layer.Sheet
layer_of cause.Place = layer.Record
layer_of cause.Code = layer.Record
layer_of cause.NotAfter = layer.Section
layer_of cause.LeftOver = layer.Section

-- the fault of a cause at a section, a record (0 for the count) and the offset of its first byte
abbrev pub fault_at : Cause → ℕ → ℕ → ℕ → Fault
fault_at c s n o = record { cause = c; layer = layer_of c; section = s; «record» = n; offset = o }
