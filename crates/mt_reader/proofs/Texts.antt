-- From the lexemes of a text to what the text says.
use Rattle.std.proofs.Common.{◌≡◌, ℕ, Option, Some, None, Result, Ok, Err, List, map, refl, sym, ap, ◌∙◌, subst}
use Rattle.mt_lexer.proofs.Determined.{says_unique, refused_says_nothing}
use Rattle.mt_lexer.specs.declared.scan.LexFault.{LexFault}
use Rattle.mt_lexer.specs.declared.scan.LexFault.TheVariants as lexing
use Rattle.mt_lexer.specs.declared.token.Token.{Token}
use Rattle.mt_lexer.specs.Tokens as lexer
use Rattle.mt_lexer.specs.Tokens.{Lexeme, HasNoTokenAt}
use Rattle.mt_reader.specs.declared.parse.ParseFault.{ParseFault}
use Rattle.mt_reader.specs.declared.parse.ParseFault.TheVariants as fault
use Rattle.mt_reader.specs.Forms.{Form, WithSemicolon}
use Rattle.mt_reader.specs.Lexing.{ParseFaultOf}
use Rattle.mt_reader.specs.Pieces.{lexeme_at}
use Rattle.mt_reader.specs.Reading.{ReadsAs, Gives}
use Rattle.mt_reader.specs.Taken.{Answers}
use Rattle.mt_reader.proofs.Lexemes.{tokens_say}

module _ {T : Type 0} (form : Form T) (whole : List Lexeme → Option T) (complete : (lexemes : List Lexeme) (tree : T) → WithSemicolon form lexemes tree → whole lexemes ≡ Some tree) where
  -- what a text reads as is what its lexemes do
  whole_reads : (text : List ℕ) (tokens : List Token) (lexemes : List Lexeme) (tree : T) → lexer.Says text tokens lexemes → ReadsAs form text tree → whole lexemes ≡ Some tree
  whole_reads text tokens lexemes tree s r =
      let same = says_unique text r.tokens tokens r.lexemes lexemes r.says s in
      ap whole (sym same.1) ∙ complete r.lexemes tree r.spelled

  -- a text reads as one tree at most
  pub reads_unique : (text : List ℕ) (a b : T) → ReadsAs form text a → ReadsAs form text b → a ≡ b
  reads_unique text a b r s =
      let first = complete r.lexemes a r.spelled in
      let second = whole_reads text r.tokens r.lexemes b r.says s in
      let both : Some a ≡ Some b = sym first ∙ second in
      cc

  -- an answer for the lexemes of a text is one for the text
  gives_whole : (inside : T → Type 0) → ((lexemes : List Lexeme) (tree : T) → whole lexemes ≡ Some tree → WithSemicolon form lexemes tree) → (text : List ℕ) (tokens : List Token) (lexemes : List Lexeme) (r : Result T ParseFault) → lexer.Says text tokens lexemes → Answers inside r (whole lexemes) → Gives form inside text r
  gives_whole inside sound text tokens lexemes (Ok tree) s a = (record { tokens = tokens; lexemes = lexemes; says = s; spelled = sound lexemes tree a.0 }, a.1)
  gives_whole inside sound text tokens lexemes (Err fault.Literal) s a = (a.0, record { tokens = tokens; lexemes = lexemes; says = s; spelled = sound lexemes a.0 a.1 }, a.2)
  gives_whole inside sound text tokens lexemes (Err fault.Syntax) s a = λ tree r. let both : None ≡ Some tree = sym a ∙ whole_reads text tokens lexemes tree s r in cc
  gives_whole inside sound text tokens lexemes (Err fault.Memory) s a = tt

  -- an answer for what the tokens of a text say is one for the text
  pub gives_answer : (inside : T → Type 0) → ((lexemes : List Lexeme) (tree : T) → whole lexemes ≡ Some tree → WithSemicolon form lexemes tree) → (text : List ℕ) (tokens : List Token) (lexemes read : List Lexeme) (r : Result T ParseFault) → lexer.Says text tokens lexemes → read ≡ map (lexeme_at text) tokens → Answers inside r (whole read) → Gives form inside text r
  gives_answer inside sound text tokens lexemes read r s e a =
      let same : read ≡ lexemes = e ∙ sym (tokens_say text tokens lexemes s).1 in
      gives_whole inside sound text tokens lexemes r s (subst (λ ls. Answers inside r (whole ls)) same a)

-- a text with no tokens has no form
refused_reads : {T : Type 0} (form : Form T) (text : List ℕ) (at : ℕ) → HasNoTokenAt text at → (tree : T) → ReadsAs form text tree → ⊥
refused_reads form text at h tree r = refused_says_nothing text at r.tokens r.lexemes h r.says

-- why a text has no tokens is why it gives no tree
pub gives_fault : {T : Type 0} (form : Form T) (inside : T → Type 0) (text : List ℕ) (found : LexFault) (answer : ParseFault) → ParseFaultOf found answer → ((at : ℕ) → ◌≡◌ {A = Result (List Token) LexFault} (Err found) (Err (lexing.Bad at)) → HasNoTokenAt text at) → Gives form inside text (Err answer)
gives_fault form inside text (lexing.Bad at) answer e bad = subst (λ a. Gives form inside text (Err a)) (sym e) (refused_reads form text at (bad at refl))
gives_fault form inside text lexing.Memory answer e bad = subst (λ a. Gives form inside text (Err a)) (sym e) tt
