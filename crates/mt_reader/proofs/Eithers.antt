-- One form behind a word, or another.
use Rattle.std.proofs.Common.{◌≡◌, Option, Some, None, List, refl}
use Rattle.mt_lexer.specs.Tokens.{Lexeme}
use Rattle.mt_reader.specs.Descent.{either}

-- what was read was read behind the word, or is the other
pub either_some : {X P : Type 0} (found : Option (List Lexeme)) (read : List Lexeme → Option X) (other : Option X) (x : X) → ((rest : List Lexeme) → found ≡ Some rest → read rest ≡ Some x → P) → (other ≡ Some x → P) → either found read other ≡ Some x → P
either_some None read other x behind else_ e = else_ e
either_some (Some rest) read other x behind else_ e = behind rest refl e
