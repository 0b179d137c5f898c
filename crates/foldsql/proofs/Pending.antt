-- Which lines of the input are still to come.
use Rattle.std.proofs.Common.{◌≡◌, ◌⊎◌, inl, inr, ℕ, ◌<◌, Bool, true, false, cond, List, [], ◌∷◌, ◌++◌, refl, sym, ◌∙◌, ap, append_assoc}
use Rattle.std.specs.Prelude.{IsTrue, filter}
use Rattle.std.proofs.lemmas.List.{append-nil}
use Rattle.mt_machine.specs.Meaning.{Supply}
use Rattle.mt_script.specs.Lines.{Line, every_line, lines_of, ended_part, ended_lines_of, has_line_feed, is_answered}
use Rattle.mt_script.specs.Reader.{Reading, GivesOut}
use Rattle.foldsql.specs.Status.{IsPrefixOf}
use Rattle.foldsql.specs.Turns.{answered_line}

-- the lines of what was taken are these, and behind them those of what is held
pub record IsOpen (taken : List ℕ) (lines : List Line) (held : List ℕ) : Type 0 where
  pub every : (rest : List ℕ) → lines_of (taken ++ rest) ≡ lines ++ lines_of (held ++ rest)
  pub every_ended : (rest : List ℕ) → ended_lines_of (taken ++ rest) ≡ lines ++ ended_lines_of (held ++ rest)

-- the input has ended, and its lines are these
pub record IsClosed (taken : List ℕ) (lines : List Line) (reading : Reading) : Type 0 where
  pub all : lines_of taken ≡ lines
  pub nothing : reading.held ≡ []
  pub ended : reading.ended ≡ true

-- which lines are still to come
abbrev pub Pending : List ℕ → List Line → Reading → Type 0
Pending taken lines reading = IsOpen taken lines reading.held ⊎ IsClosed taken lines reading

-- where the reader was told that the input ends, it had some of the budget left
pub record IsAtEnd (reading : Reading) (now : Supply) : Type 0 where
  pub nothing : IsTrue now.tells → now.left ≡ []
  pub within : 0 < reading.budget

-- a filter goes on from its first element
filter-first : {A : Type 0} (p : A → Bool) (x : A) (xs : List A) → filter p (x ∷ xs) ≡ filter p (x ∷ []) ++ filter p xs
filter-first p x xs = elim (p x) as (λ b. cond b (x ∷ filter p xs) (filter p xs) ≡ cond b (x ∷ []) [] ++ filter p xs) [ true ↦ refl | false ↦ refl ]

-- the next line moves from what is held to the lines so far, however the lines are cut
moves_on : (cuts : List ℕ → List Line) (taken more held further : List ℕ) (lines : List Line) (line : Line) → ((rest : List ℕ) → filter is_answered (cuts (taken ++ rest)) ≡ lines ++ filter is_answered (cuts (held ++ rest))) → ((rest : List ℕ) → cuts ((held ++ more) ++ rest) ≡ line ∷ cuts (further ++ rest)) → (rest : List ℕ) → filter is_answered (cuts ((taken ++ more) ++ rest)) ≡ (lines ++ answered_line line) ++ filter is_answered (cuts (further ++ rest))
moves_on cuts taken more held further lines line so_far begins rest =
    ap (λ bytes. filter is_answered (cuts bytes)) (append_assoc taken more rest) ∙ so_far (more ++ rest)
    ∙ ap (λ bytes. lines ++ filter is_answered (cuts bytes)) (sym (append_assoc held more rest)) ∙ ap (λ ls. lines ++ filter is_answered ls) (begins rest)
    ∙ ap (λ ls. lines ++ ls) (filter-first is_answered line (cuts (further ++ rest))) ∙ sym (append_assoc lines (answered_line line) (filter is_answered (cuts (further ++ rest))))

-- nothing gives no line
gives_nothing : (bytes : List ℕ) (line : Line) (new : Reading) → bytes ≡ [] → GivesOut bytes line new → ⊥
gives_nothing bytes line new none (inl begins) = let e : [] ≡ line ∷ every_line (new.held ++ []) = ap (λ b. every_line (b ++ [])) (sym none) ∙ begins.every [] in cc
gives_nothing bytes line new none (inr last) = let e : [] ≡ line ∷ [] = ap every_line (sym none) ∙ last.only in cc

-- the line that is given out moves to the lines so far
pub pending_on : (taken more : List ℕ) (lines : List Line) (line : Line) (old new : Reading) → Pending taken lines old → (old.ended ≡ true → more ≡ []) → GivesOut (old.held ++ more) line new → Pending (taken ++ more) (lines ++ answered_line line) new
pending_on taken more lines line old new (inl so_far) asks_no_more (inl begins) = inl (record {
  every = moves_on every_line taken more old.held new.held lines line so_far.every begins.every;
  every_ended = moves_on (λ bytes. every_line (ended_part bytes)) taken more old.held new.held lines line so_far.every_ended begins.every_ended;
})
pending_on taken more lines line old new (inl so_far) asks_no_more (inr last) = inr (record {
  all = so_far.every more ∙ ap (λ ls. lines ++ filter is_answered ls) last.only;
  nothing = last.nothing;
  ended = last.ended;
})
pending_on taken more lines line old new (inr closed) asks_no_more gives = absurd (gives_nothing (old.held ++ more) line new (rw (closed.nothing, asks_no_more closed.ended) refl) gives)

-- the lines so far are the first of those that were taken
pub pending-prefix : (taken : List ℕ) (lines : List Line) (reading : Reading) → Pending taken lines reading → IsPrefixOf lines (lines_of taken)
pending-prefix taken lines reading (inl so_far) = (lines_of (reading.held ++ []), ap lines_of (sym (append-nil taken)) ∙ so_far.every [])
pending-prefix taken lines reading (inr closed) = ([], closed.all ∙ sym (append-nil lines))

-- the end of nothing is nothing
pub end_of_nothing : {A : Type 0} (xs ys : List A) → xs ++ ys ≡ [] → ys ≡ []
end_of_nothing [] ys e = e
end_of_nothing (x ∷ xs) ys e = absurd (cc)

-- without a line feed no line has ended
pub ended_part_of_none : (bytes : List ℕ) → has_line_feed bytes ≡ false → ended_part bytes ≡ []
ended_part_of_none [] none = refl
ended_part_of_none (b ∷ bs) none = ap (λ t. cond t (b ∷ ended_part bs) []) none
