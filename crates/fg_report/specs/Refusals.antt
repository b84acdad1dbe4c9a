-- The line of a refusal.
use Rattle.std.specs.Prelude.{ℕ, List, ◌++◌, codes, decimal}
use Rattle.fg_base.specs.declared.plain.BadEdge.{BadEdge as BadEntry}
use Rattle.fg_base.specs.declared.plain.Dir.{Dir}
use Rattle.fg_base.specs.declared.plain.Dir.TheVariants.{Out, In}
use Rattle.fg_base.specs.declared.refusal.WordFault.{WordFault}
use Rattle.fg_base.specs.declared.refusal.WordFault.TheVariants.{Parse, Command, Extra, Missing, Range}
use Rattle.fg_base.specs.declared.refusal.Refusal.{Refusal}
use Rattle.fg_base.specs.declared.refusal.Refusal.TheVariants.{Memory, Words, InputFault, OutputFault, DriveFault, BadLine, IdTooLarge, TooManyEdges, TextTooLong, NotEmpty, ShortDrive, NoLabel, WrongDrive, LabelDiffers, BadHeader, BadVersion, BadSections, BadIndex, BadSource, BadEdge, BadPadding, NotMirror}
use Rattle.fg_base.specs.Options.{option_name}

-- a direction as it is written
abbrev pub direction_name : Dir → List ℕ
direction_name Out = codes "out"
direction_name In = codes "in"

-- what is wrong with the words
abbrev pub word_fault_text : WordFault → List ℕ
word_fault_text Parse = codes "parse"
word_fault_text Command = codes "command"
word_fault_text (Extra option) = codes "extra " ++ option_name option
word_fault_text (Missing option) = codes "missing " ++ option_name option
word_fault_text (Range option) = codes "range " ++ option_name option

-- the entry that names no vertex
abbrev pub bad_entry_text : BadEntry → List ℕ
bad_entry_text edge =
    codes "vertex " ++ decimal edge.v ++ codes " " ++ direction_name edge.dir ++ codes " entry " ++ decimal edge.place
    ++ codes " target " ++ decimal edge.found

-- what a refusal says behind `refused: `
abbrev pub refusal_text : Refusal → List ℕ
refusal_text Memory = codes "memory"
refusal_text (Words fault) = codes "words " ++ word_fault_text fault
refusal_text InputFault = codes "input failed"
refusal_text OutputFault = codes "output failed"
refusal_text (DriveFault drive) = codes "drive " ++ decimal drive ++ codes " failed"
refusal_text (BadLine line) = codes "line " ++ decimal line ++ codes " not an edge"
refusal_text (IdTooLarge line) = codes "line " ++ decimal line ++ codes " id too large"
refusal_text (TooManyEdges line) = codes "line " ++ decimal line ++ codes " too many edges"
refusal_text TextTooLong = codes "text too long"
refusal_text (NotEmpty drive) = codes "drive " ++ decimal drive ++ codes " not empty"
refusal_text (ShortDrive drive have need) =
    codes "drive " ++ decimal drive ++ codes " has " ++ decimal have ++ codes " pages, needs " ++ decimal need
refusal_text (NoLabel drive) = codes "drive " ++ decimal drive ++ codes " has no label"
refusal_text (WrongDrive drive found) = codes "drive " ++ decimal drive ++ codes " is labelled " ++ decimal found
refusal_text (LabelDiffers drive) = codes "drive " ++ decimal drive ++ codes " label differs"
refusal_text BadHeader = codes "bad header"
refusal_text (BadVersion found) = codes "version " ++ decimal found ++ codes " unknown"
refusal_text BadSections = codes "bad sections"
refusal_text (BadIndex dir place) = codes "bad " ++ direction_name dir ++ codes " index at " ++ decimal place
refusal_text (BadSource source n) = codes "source " ++ decimal source ++ codes " not below " ++ decimal n
refusal_text (BadEdge edge) = bad_entry_text edge
refusal_text (BadPadding page) = codes "page " ++ decimal page ++ codes " padding"
refusal_text (NotMirror v) = codes "vertex " ++ decimal v ++ codes " not mirrored"

-- the line of a refusal, with its end
abbrev pub refusal_line : Refusal → List ℕ
refusal_line refusal = codes "refused: " ++ refusal_text refusal ++ codes "\n"
