-- A fault in words: its cause and its layer, and the line that tells it with its numbers.
use Rattle.std.specs.Prelude.{ℕ, List, ◌++◌, codes, decimal}
use Rattle.refusals.specs.Faults.{cause_number}
use Rattle.refusals.specs.declared.fault.Cause.{Cause}
use Rattle.refusals.specs.declared.fault.Cause.TheVariants as cause
use Rattle.refusals.specs.declared.fault.Fault.{Fault}
use Rattle.refusals.specs.declared.fault.Layer.{Layer}
use Rattle.refusals.specs.declared.fault.Layer.TheVariants as layer

abbrev pub words_of : Cause → List ℕ
words_of cause.NotWhole = codes "a count or record is not whole"
words_of cause.Count = codes "the count is not one that a section may have"
words_of cause.Kind = codes "the kind is unknown"
words_of cause.Sizes = codes "the sizes are outside the limits"
words_of cause.Place = codes "the place is outside the sizes"
words_of cause.Code = codes "the code is not valid in the kind"
words_of cause.NotAfter = codes "the record does not come after the one before"
words_of cause.LeftOver = codes "bytes are left over"

abbrev pub word_of : Layer → List ℕ
word_of layer.Bytes = codes "bytes"
word_of layer.Record = codes "record"
word_of layer.Section = codes "section"
word_of layer.Sheet = codes "sheet"

abbrev pub fault_line : Fault → List ℕ
fault_line f =
    codes "fault: " ++ (words_of f.cause
    ++ (codes " (cause " ++ (decimal (cause_number f.cause)
    ++ (codes ", layer " ++ (word_of f.layer
    ++ (codes ", section " ++ (decimal f.section
    ++ (codes ", record " ++ (decimal f.«record»
    ++ (codes ", offset " ++ (decimal f.offset ++ codes ")")))))))))))
