-- Which lines were answered come first among those of the input.
use Rattle.std.proofs.Common.{◌≡◌, ◌≢◌, ℕ, Bool, true, false, cond, List, [], ◌∷◌, ◌++◌, ◌||◌, refl, sym, ◌∙◌, ap, subst}
use Rattle.std.specs.Prelude.{filter, map as map_list, ◌==◌}
use Rattle.std.proofs.lemmas.List.{append-nil, map-append}
use Rattle.std.proofs.lemmas.List.Elements.{filter-append}
use Rattle.mt_machine.specs.Meaning.{Supply}
use Rattle.mt_script.specs.Lines.{Line, cut, put_in_front, line_of, every_line, lines_of, ended_part, ended_lines_of, has_line_feed, is_answered}
use Rattle.foldsql.specs.declared.status.Status.{Status}
use Rattle.foldsql.specs.declared.status.Status.TheVariants.{Done, Words, DiskFault, EmitFault, SourceFault, InputTooLong, NoMemory}
use Rattle.foldsql.specs.Status.{CoversInput, IsPrefixOf}

-- the first piece takes the byte, where there is one
front-append : (b : ℕ) (pieces rest : List (List ℕ)) → pieces ≢ [] → put_in_front b (pieces ++ rest) ≡ put_in_front b pieces ++ rest
front-append b [] rest some = absurd (some refl)
front-append b (piece ∷ pieces) rest some = refl

put_in_front_some : (b : ℕ) (pieces : List (List ℕ)) → put_in_front b pieces ≢ []
put_in_front_some b [] e = cc
put_in_front_some b (piece ∷ pieces) e = cc

-- bytes are cut into pieces
cut_some : (b : ℕ) (bs : List ℕ) → cut (b ∷ bs) ≢ []
cut_some b bs e = elim (b == 10) as (λ t. cond t ([] ∷ cut bs) (put_in_front b (cut bs)) ≢ []) [ true ↦ λ e. cc | false ↦ put_in_front_some b (cut bs) ] e

-- where a line has ended, some bytes stand before the end of the last one
ended_some : (bs : List ℕ) → has_line_feed bs ≡ true → cut (ended_part bs) ≢ []
ended_some [] feed e = cc
ended_some (b ∷ bs) feed e = cut_some b (ended_part bs) (sym (ap (λ t. cut (cond t (b ∷ ended_part bs) [])) feed) ∙ e)

cut_choice : (t : Bool) (bytes : List ℕ) → cut (cond t bytes []) ≡ cond t (cut bytes) []
cut_choice true bytes = refl
cut_choice false bytes = refl

-- the same for one byte more, by whether it is a line feed and whether one follows
cut_ended_on : (b : ℕ) (bs : List ℕ) → IsPrefixOf (cut (ended_part bs)) (cut bs) → (feed more : Bool) → has_line_feed bs ≡ more → IsPrefixOf (cond (feed || more) (cond feed ([] ∷ cut (ended_part bs)) (put_in_front b (cut (ended_part bs)))) []) (cond feed ([] ∷ cut bs) (put_in_front b (cut bs)))
cut_ended_on b bs (rest, e) true more is = (rest, ap (λ pieces. [] ∷ pieces) e)
cut_ended_on b bs (rest, e) false true is = (rest, ap (put_in_front b) e ∙ front-append b (cut (ended_part bs)) rest (ended_some bs is))
cut_ended_on b bs (rest, e) false false is = (put_in_front b (cut bs), refl)

-- the pieces that have ended come first
cut_ended : (bytes : List ℕ) → IsPrefixOf (cut (ended_part bytes)) (cut bytes)
cut_ended [] = ([], refl)
cut_ended (b ∷ bs) =
    let on = cut_ended_on b bs (cut_ended bs) (b == 10) (has_line_feed bs) refl in
    (on.0, on.1 ∙ ap (λ pieces. pieces ++ on.0) (sym (cut_choice (has_line_feed (b ∷ bs)) (b ∷ ended_part bs))))

-- the lines that have ended come first
pub ended_first : (bytes : List ℕ) → IsPrefixOf (ended_lines_of bytes) (lines_of bytes)
ended_first bytes =
    let pieces = cut_ended bytes in (
      filter is_answered (map_list line_of pieces.0),
      ap (λ ps. filter is_answered (map_list line_of ps)) pieces.1 ∙ ap (filter is_answered) (map-append line_of (cut (ended_part bytes)) pieces.0)
          ∙ filter-append is_answered (every_line (ended_part bytes)) (map_list line_of pieces.0),
    )

-- whatever the status, the lines that were answered come first
pub covered_first : (status : Status) (taken : List ℕ) (lines : List Line) (after : Supply) → CoversInput status taken lines after → IsPrefixOf lines (lines_of taken)
covered_first Done taken lines after covers = ([], sym covers.0 ∙ sym (append-nil lines))
covered_first Words taken lines after covers = absurd covers
covered_first DiskFault taken lines after covers = covers
covered_first EmitFault taken lines after covers = covers
covered_first SourceFault taken lines after covers = subst (λ ls. IsPrefixOf ls (lines_of taken)) (sym covers.0) (ended_first taken)
covered_first InputTooLong taken lines after covers = subst (λ ls. IsPrefixOf ls (lines_of taken)) (sym covers.0) (ended_first taken)
covered_first NoMemory taken lines after covers = (lines_of taken, ap (λ ls. ls ++ lines_of taken) (sym covers.1))
