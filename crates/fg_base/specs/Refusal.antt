use Rattle.std.specs.Prelude.{ℕ}
use Rattle.fg_base.specs.declared.refusal.Refusal.{Refusal}
use Rattle.fg_base.specs.declared.refusal.Refusal.TheVariants.{Memory, Words, InputFault, OutputFault, DriveFault, BadLine, IdTooLarge, TooManyEdges, TextTooLong, NotEmpty, ShortDrive, NoLabel, WrongDrive, LabelDiffers, BadHeader, BadVersion, BadSections, BadIndex, BadSource, BadEdge, BadPadding, NotMirror}

-- the status that the program ends with: 1 want of memory, 2 the words, 3 the input, 4 the output, 5 a drive, 6 an edge
-- text, 7 what the drives hold, 8 the graph, 9 what a check of an image found
abbrev pub status_of : Refusal → ℕ
status_of Memory = 1
status_of (Words fault) = 2
status_of InputFault = 3
status_of OutputFault = 4
status_of (DriveFault drive) = 5
status_of (BadLine line) = 6
status_of (IdTooLarge line) = 6
status_of (TooManyEdges line) = 6
status_of TextTooLong = 6
status_of (NotEmpty drive) = 7
status_of (ShortDrive drive have need) = 7
status_of (NoLabel drive) = 7
status_of (WrongDrive drive found) = 7
status_of (LabelDiffers drive) = 7
status_of BadHeader = 7
status_of (BadVersion found) = 7
status_of BadSections = 7
status_of (BadIndex dir place) = 7
status_of (BadSource v n) = 8
status_of (BadEdge edge) = 8
status_of (BadPadding page) = 9
status_of (NotMirror v) = 9
