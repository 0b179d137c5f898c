-- What written tokens spell is shown by tokens that spell the same and can be written: for each form, from what holds of its parts.
use Rattle.std.proofs.Common.{◌≡◌, List, [], ◌∷◌, ◌++◌, length, map, refl, subst, inl, inr}
use Rattle.std.proofs.Math.Seq.{take-append_seam, drop-append_seam}
use Rattle.std.proofs.lemmas.List.Elements.{All-nil, All-cons, All-tail, All-append, All-take, All-drop}
use Rattle.std.specs.List.{All}
use Rattle.mt_lexer.specs.Tokens.{Lexeme, Sign}
use Rattle.mt_lexer.specs.declared.token.Symbol.TheVariants as symbol
use Rattle.mt_reader.specs.Forms.{Form, Separated, Joined, Bracketed, Behind, Parts, Just}
use Rattle.mt_show.specs.Text.{IsWritten}
use Rattle.mt_show.specs.Shown.{between, bracketed}

-- these tokens spell the tree, and each can be written
abbrev pub Prints : {T : Type 0} → Form T → T → List Lexeme → Type 0
Prints {T} form tree tokens = form tokens tree × All IsWritten tokens

-- where written tokens are of this kind, these are too and can be written
abbrev pub Gives : (List Lexeme → Type 0) → List Lexeme → Type 0
Gives kind shown = (tokens : List Lexeme) → All IsWritten tokens → kind tokens → kind shown × All IsWritten shown

-- each tree that written tokens spell in the form is spelled in it by what it is shown by
abbrev pub Shows : {T : Type 0} → Form T → (T → List Lexeme) → Type 0
Shows {T} form shown = (tree : T) → Gives (λ tokens. form tokens tree) (shown tree)

-- what holds of all of two lists holds of all of the first
pub All-front : {X : Type 0} (P : X → Type 0) (all front back : List X) → all ≡ front ++ back → All P all → All P front
All-front P all front back e h = subst (All P) (take-append_seam front back) (All-take P (length front) (front ++ back) (subst (All P) e h))

-- and of all of the second
pub All-back : {X : Type 0} (P : X → Type 0) (all front back : List X) → all ≡ front ++ back → All P all → All P back
All-back P all front back e h = subst (All P) (drop-append_seam front back) (All-drop P (length front) (front ++ back) (subst (All P) e h))

-- and of all behind one that stands between
pub All-behind : {X : Type 0} (P : X → Type 0) (all front : List X) (x : X) (back : List X) → all ≡ front ++ x ∷ back → All P all → All P back
All-behind P all front x back e h = All-tail P x back (All-back P all front (x ∷ back) e h)

-- and so of all of both
pub All-both : {X : Type 0} (P : X → Type 0) (front back : List X) → All P (front ++ back) → All P front × All P back
All-both P front back h = (All-front P (front ++ back) front back refl h, All-back P (front ++ back) front back refl h)

-- one token can be written
pub written_one : (lexeme : Lexeme) → IsWritten lexeme → All IsWritten (lexeme ∷ [])
written_one lexeme p = All-cons IsWritten lexeme [] p (All-nil IsWritten)

-- tokens can be written with one between
pub written_between : (front : List Lexeme) (by : Lexeme) (back : List Lexeme) → IsWritten by → All IsWritten front → All IsWritten back → All IsWritten (front ++ by ∷ back)
written_between front by back p h k = All-append IsWritten front (by ∷ back) h (All-cons IsWritten by back p k)

-- and in brackets
pub written_bracketed : (tokens : List Lexeme) → All IsWritten tokens → All IsWritten (bracketed tokens)
written_bracketed tokens h = All-cons IsWritten (Sign symbol.Open) _ tt (written_between tokens (Sign symbol.Close) [] tt h (All-nil IsWritten))

-- what is written in brackets is written
pub written_inside : (inner tokens : List Lexeme) → tokens ≡ bracketed inner → All IsWritten tokens → All IsWritten inner
written_inside inner tokens e w = All-front IsWritten (inner ++ Sign symbol.Close ∷ []) inner (Sign symbol.Close ∷ []) refl (All-tail IsWritten (Sign symbol.Open) (inner ++ Sign symbol.Close ∷ []) (subst (All IsWritten) e w))

-- of what is not written nothing is shown
pub nothing_gives : Gives (Just []) []
nothing_gives tokens w s = (refl, All-nil IsWritten)

-- two parts
pub parts_give : {left right : List Lexeme → Type 0} (front back : List Lexeme) → Gives left front → Gives right back → Gives (Parts left right) (front ++ back)
parts_give front back g h tokens w s =
    let p = g s.front (All-front IsWritten tokens s.front s.back s.split w) s.is_left in
    let q = h s.back (All-back IsWritten tokens s.front s.back s.split w) s.is_right in
    (record { front = front; back = back; split = refl; is_left = p.0; is_right = q.0 }, All-append IsWritten front back p.1 q.1)

module _ {T : Type 0} {form : Form T} (shown : T → List Lexeme) (shows : Shows form shown) where
  -- in brackets
  pub bracketed_shows : Shows (Bracketed form) (λ tree. bracketed (shown tree))
  bracketed_shows tree tokens w s =
      let p = shows tree s.inner (written_inside s.inner tokens s.brackets w) s.body in
      (record { inner = shown tree; brackets = refl; body = p.0 }, written_bracketed (shown tree) p.1)

  -- behind words
  pub behind_shows : (words : List Lexeme) → All IsWritten words → Shows (Behind words form) (λ tree. words ++ shown tree)
  behind_shows words written tree tokens w s =
      let p = shows tree s.inner (All-back IsWritten tokens words s.inner s.prefix w) s.body in
      (record { inner = shown tree; prefix = refl; body = p.0 }, All-append IsWritten words (shown tree) written p.1)

  -- with a separator between
  pub separated_shows : (by : Lexeme) → IsWritten by → Shows (Separated form by) (λ trees. between by (map shown trees))
  separated_shows by written [] tokens w s = elim s [ ]
  separated_shows by written (x ∷ []) tokens w s = shows x tokens w s
  separated_shows by written (x ∷ y ∷ ys) tokens w s =
      let p = shows x s.front (All-front IsWritten tokens s.front (by ∷ s.back) s.split w) s.first in
      let q = separated_shows by written (y ∷ ys) s.back (All-behind IsWritten tokens s.front by s.back s.split w) s.others in
      let back = between by (map shown (y ∷ ys)) in
      (record { front = shown x; back = back; split = refl; first = p.0; others = q.0 }, written_between (shown x) by back written p.1 q.1)

-- forms that spell more

-- what the one form spells, the other does
abbrev pub Grows : {T : Type 0} → Form T → Form T → Type 0
Grows {T} from to = (tokens : List Lexeme) (tree : T) → from tokens tree → to tokens tree

module _ {T : Type 0} {from to : Form T} (grows : Grows from to) where
  -- in brackets
  pub bracketed_grows : Grows (Bracketed from) (Bracketed to)
  bracketed_grows tokens tree s = record { inner = s.inner; brackets = s.brackets; body = grows s.inner tree s.body }

  -- behind words
  pub behind_grows : (words : List Lexeme) → Grows (Behind words from) (Behind words to)
  behind_grows words tokens tree s = record { inner = s.inner; prefix = s.prefix; body = grows s.inner tree s.body }

  -- with a separator between
  pub separated_grows : (by : Lexeme) → Grows (Separated from by) (Separated to by)
  separated_grows by tokens [] s = s
  separated_grows by tokens (x ∷ []) s = grows tokens x s
  separated_grows by tokens (x ∷ y ∷ ys) s = record { front = s.front; back = s.back; split = s.split; first = grows s.front x s.first; others = separated_grows by s.back (y ∷ ys) s.others }

  -- one alone, or more that are joined
  pub joined_grows : (by : Lexeme) (join : List T → T) → Grows (Joined from by join) (Joined to by join)
  joined_grows by join tokens tree (inl alone) = inl (grows tokens tree alone)
  joined_grows by join tokens tree (inr many) = inr (record { members = many.members; joined = many.joined; many = many.many; separated = separated_grows by tokens many.members many.separated })
