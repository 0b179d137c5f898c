-- What a call that reads from the left answers.
use Rattle.std.specs.Prelude.{◌≡◌, Bool, true, false, Option, Some, None, Result, Ok, Err, List}
use Rattle.mt_lexer.specs.Tokens.{Lexeme}
use Rattle.mt_reader.specs.declared.fault.ReadFault.{ReadFault}
use Rattle.mt_reader.specs.declared.fault.ReadFault.TheVariants as fault
use Rattle.mt_reader.specs.declared.parse.ParseFault.{ParseFault}
use Rattle.mt_reader.specs.declared.parse.ParseFault.TheVariants as parse

-- The call took what reads, if anything did, and else stayed.
abbrev pub Skips : Bool → List Lexeme → List Lexeme → Option (List Lexeme) → Type 0
Skips true old new read = read ≡ Some new
Skips false old new read = (read ≡ None) × (new ≡ old)

-- The call took what reads as this, if anything did, and else stayed.
abbrev pub TakesAny : {X : Type 0} → Option X → List Lexeme → List Lexeme → Option (X × List Lexeme) → Type 0
TakesAny (Some x) old new read = read ≡ Some (x, new)
TakesAny None old new read = (read ≡ None) × (new ≡ old)

-- Unread where nothing reads; want of memory says nothing
abbrev pub Fails : {Y : Type 0} → ReadFault → Option Y → Type 0
Fails fault.Unread read = read ≡ None
Fails fault.Memory read = Unit {0}

-- It took what reads as this.
abbrev pub TakesExactly : {X Y : Type 0} → Result X ReadFault → (X → Y) → Option Y → Type 0
TakesExactly (Ok x) tree read = read ≡ Some (tree x)
TakesExactly (Err e) tree read = Fails e read

-- a tree with a number outside 64 bits is not kept
abbrev pub Keeps : {X : Type 0} → (X → Type 0) → Option X → X → Type 0
Keeps inside None tree = inside tree → ⊥
Keeps inside (Some kept) tree = (kept ≡ tree) × inside tree

-- It took what reads as a tree, and kept this of it.
pub record Took {X : Type 0} (inside : X → Type 0) (kept : Option X) (left : List Lexeme) (read : Option (X × List Lexeme)) : Type 0 where
  pub tree : X
  pub reads : read ≡ Some (tree, left)
  pub keeps : Keeps inside kept tree

-- It took a tree, or failed.
abbrev pub TakesInside : {X : Type 0} → (X → Type 0) → Result (Option X) ReadFault → List Lexeme → Option (X × List Lexeme) → Type 0
TakesInside inside (Ok kept) left read = Took inside kept left read
TakesInside inside (Err e) left read = Fails e read

-- what is not read has no reading
abbrev pub parse_of : ReadFault → ParseFault
parse_of fault.Unread = parse.Syntax
parse_of fault.Memory = parse.Memory

-- the whole is a tree, all of its numbers inside 64 bits
abbrev pub Answers : {X : Type 0} → (X → Type 0) → Result X ParseFault → Option X → Type 0
Answers inside (Ok tree) read = (read ≡ Some tree) × inside tree
Answers {X} inside (Err parse.Literal) read = (tree : X) × (read ≡ Some tree) × (inside tree → ⊥)
Answers inside (Err parse.Syntax) read = read ≡ None
Answers inside (Err parse.Memory) read = Unit {0}
