-- The text behind the first space is that of the tokens.
use Rattle.std.proofs.Common.{◌≡◌, ℕ, List, [], ◌∷◌, ◌∙◌, IfOk, subst}
use Rattle.mt_lexer.specs.Tokens.{Lexeme}
use Rattle.mt_show.specs.Spaced.{spaced}
use Rattle.mt_show.specs.Text.{text_of}
use Rattle.mt_show.proofs.Joined.{text-cons, spaced-nil}
use Rattle.mt_show.proofs.printer.Printer.finish.Goals as goal

-- the text without a space in front
behind_space : (text behind : List ℕ) → ((rest : List ℕ) → text ≡ 32 ∷ rest → behind ≡ rest) → (text ≡ [] → behind ≡ []) → (lexemes : List Lexeme) → text ≡ spaced lexemes → behind ≡ text_of lexemes
behind_space text behind space empty [] e = empty (e ∙ spaced-nil)
behind_space text behind space empty (x ∷ xs) e = space (text_of (x ∷ xs)) (e ∙ text-cons x xs)

pub returns : goal.returns
returns c = λ lexemes e.
    let text = c.as_str.result.now in
    let whole : text ≡ c.args.self = c.as_str.ensures.value ∙ c.self.view_is in
    let behind = behind_space text c.without_space.result.now c.without_space.ensures.space c.without_space.ensures.empty lexemes (whole ∙ e) in
    subst (λ bytes. IfOk c.from_str.result (λ made. made ≡ bytes)) behind c.from_str.ensures
