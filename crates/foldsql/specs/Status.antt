-- What a status says: its number, its last line, and which lines were answered.
use Rattle.std.specs.Prelude.{◌≡◌, ℕ, ◌^◌, ◌<◌, IsTrue, List, [], ◌∷◌, ◌++◌, length, codes}
use Rattle.mt_machine.specs.Meaning.{Supply}
use Rattle.mt_script.specs.Lines.{Line, lines_of, ended_lines_of}
use Rattle.foldsql.specs.declared.status.Status.{Status}
use Rattle.foldsql.specs.declared.status.Status.TheVariants.{Done, Words, DiskFault, EmitFault, SourceFault, InputTooLong, NoMemory}

-- the number that the process ends with
abbrev pub code_of : Status → ℕ
code_of Done = 0
code_of Words = 2
code_of DiskFault = 3
code_of EmitFault = 5
code_of SourceFault = 6
code_of InputTooLong = 7
code_of NoMemory = 8

-- what is put out last, to say why the run stopped
unfoldable pub last_line : Status → List ℕ
last_line Done = []
last_line Words = codes "stopped words\n"
last_line DiskFault = codes "stopped disk fault\n"
last_line EmitFault = []
last_line SourceFault = codes "stopped source fault\n"
last_line InputTooLong = codes "stopped input too long\n"
last_line NoMemory = codes "stopped no memory\n"

-- the one sequence begins the other
abbrev pub IsPrefixOf : {A : Type 0} → List A → List A → Type 0
IsPrefixOf {A} xs ys = (rest : List A) × (ys ≡ xs ++ rest)

-- Which lines of the bytes that were taken got a whole reply, by the status.
abbrev pub CoversInput : Status → List ℕ → List Line → Supply → Type 0
-- the input was read to its end, and each line was answered
CoversInput Done taken lines after = (lines ≡ lines_of taken) × (length taken < 2 ^ 40) × (IsTrue after.tells → after.left ≡ [])
CoversInput Words taken lines after = ⊥
-- the disk failed within a line
CoversInput DiskFault taken lines after = IsPrefixOf lines (lines_of taken)
-- the output failed before the lines were all answered, or behind them
CoversInput EmitFault taken lines after = IsPrefixOf lines (lines_of taken)
-- each line that had ended was answered
CoversInput SourceFault taken lines after = (lines ≡ ended_lines_of taken) × (length taken < 2 ^ 40)
CoversInput InputTooLong taken lines after = (lines ≡ ended_lines_of taken) × (length taken ≡ 2 ^ 40)
-- nothing was read
CoversInput NoMemory taken lines after = (taken ≡ []) × (lines ≡ [])

-- Which lines were begun and have no whole reply, by a status that says so: one where the disk failed,
-- and else none.
abbrev pub IsBegunAt : Status → List Line → Type 0
IsBegunAt DiskFault begun = length begun ≡ 1
IsBegunAt status begun = begun ≡ []
