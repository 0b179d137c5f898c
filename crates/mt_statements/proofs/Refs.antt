-- The references of a SELECT, of which there are 4 at most.
use Rattle.std.proofs.Common.{◌≡◌, ℕ, zero, suc, ◌≤◌, Option, Some, None, List, [], ◌∷◌, ◌++◌, length, refl, sym, ap, ◌∙◌, subst, append_assoc, append-nil, inr, arith}
use Rattle.std.proofs.lemmas.List.Elements.{All-nil}
use Rattle.std.specs.List.{All}
use Rattle.std.specs.Option.{option_and_then}
use Rattle.mt_lexer.specs.Tokens.{Lexeme}
use Rattle.mt_tree.specs.declared.statement.Ref.{Ref}
use Rattle.mt_reader.specs.declared.fault.ReadFault.{ReadFault}
use Rattle.mt_reader.specs.Descent.{with_front, pushed}
use Rattle.mt_reader.specs.Forms.{Maybe}
use Rattle.mt_reader.specs.Fronts.{Begins}
use Rattle.mt_reader.specs.Taken.{Keeps, Took, Fails}
use Rattle.mt_reader.proofs.Lists.{keeps_pushed, with_front-append}
use Rattle.mt_reader.proofs.Literals.{fails_bind}
use Rattle.mt_reader.proofs.Shrinking.{bind_some, same_tree, same_rest}
use Rattle.mt_reader.proofs.Spelling.{IsSound, IsCompleteBefore}
use Rattle.mt_statements.specs.declared.reference.Start.{Start}
use Rattle.mt_statements.specs.QueryDescent.{table_reference_of, start_of, following_of, more_of, more_behind, full_behind, refs_of}
use Rattle.mt_statements.specs.QueryInside.{IsRefInside}
use Rattle.mt_statements.specs.Query.{SpellsMore, SpellsRefs}
use Rattle.mt_statements.proofs.Starts.{StartsAmong, behind_refs}
use Rattle.mt_statements.proofs.Tables.{SpellsStart, SpellsNext, behind_ref, ends_table, start_sound, start_none, table_sound, table_alone, table_complete, alone, next_sound, next_complete, next_starts}

-- References that are spelled, and how many there are at most.
record MoreBegin (room : ℕ) (lexemes rest : List Lexeme) (refs : List Ref) : Type 0 where
  begins : Begins SpellsMore lexemes rest refs
  few : length refs ≤ room

-- where no reference begins there are none
none_begin : (room : ℕ) (lexemes mid rest : List Lexeme) (refs : List Ref) → Begins (Maybe SpellsStart) lexemes mid None → ◌≡◌ {A = Option (List Ref × List Lexeme)} (Some ([], mid)) (Some (refs, rest)) → MoreBegin room lexemes rest refs
none_begin room lexemes mid rest refs b e =
    let none : [] ≡ refs = same_tree e in
    record {
      begins = record {
        front = [];
        whole = b.whole ∙ ap (λ ls. ls ++ mid) b.spelled ∙ same_rest e;
        spelled = subst (SpellsMore []) none refl;
      };
      few = subst (λ (refs : List Ref). length refs ≤ room) none (omega arith);
    }

-- one more reference in front of others
one_begins : (room : ℕ) (lexemes mid rest : List Lexeme) (ref : Ref) (refs : List Ref) → Begins SpellsNext lexemes mid ref → MoreBegin room mid rest refs → MoreBegin (suc room) lexemes rest (ref ∷ refs)
one_begins room lexemes mid rest ref refs b m = record {
  begins = record {
    front = b.front ++ m.begins.front;
    whole = b.whole ∙ ap (λ ls. b.front ++ ls) m.begins.whole ∙ sym (append_assoc b.front m.begins.front rest);
    spelled = record { front = b.front; back = m.begins.front; split = refl; is_left = b.spelled; is_right = m.begins.spelled };
  };
  few = omega (arith, m.few);
}

-- what is read as references behind the first is spelled so, and not more than there is room for
more_sound : (room : ℕ) (lexemes rest : List Lexeme) (refs : List Ref) → more_of room lexemes ≡ Some (refs, rest) → MoreBegin room lexemes rest refs
more_sound zero lexemes rest refs e =
    let p = bind_some (start_of lexemes) _ (refs, rest) e in
    by_start p.0.0 p.0.1 (start_sound lexemes p.0.1 p.0.0 p.1) p.2 where
      by_start : (start : Option Start) (mid : List Lexeme) → Begins (Maybe SpellsStart) lexemes mid start → full_behind start mid ≡ Some (refs, rest) → MoreBegin zero lexemes rest refs
      by_start None mid b e = none_begin zero lexemes mid rest refs b e
      by_start (Some start) mid b e = cc
more_sound (suc room) lexemes rest refs e =
    let p = bind_some (start_of lexemes) _ (refs, rest) e in
    by_start p.0.0 p.0.1 (start_sound lexemes p.0.1 p.0.0 p.1) p.2 (more_sound room) where
      by_start : (start : Option Start) (mid : List Lexeme) → Begins (Maybe SpellsStart) lexemes mid start → more_behind (more_of room) start mid ≡ Some (refs, rest) → ((left rest : List Lexeme) (refs : List Ref) → more_of room left ≡ Some (refs, rest) → MoreBegin room left rest refs) → MoreBegin (suc room) lexemes rest refs
      by_start None mid b e more = none_begin (suc room) lexemes mid rest refs b e
      by_start (Some start) mid b e more =
          let p = bind_some (following_of start mid) _ (refs, rest) e in
          let q = bind_some (more_of room p.0.1) _ (refs, rest) p.2 in
          let one = next_sound lexemes mid p.0.1 start p.0.0 b p.1 in
          let others = more p.0.1 q.0.1 q.0.0 q.1 in
          let all = one_begins room lexemes p.0.1 q.0.1 p.0.0 q.0.0 one others in
          subst (λ left. MoreBegin (suc room) lexemes left refs) (same_rest q.2) (subst (MoreBegin (suc room) lexemes q.0.1) (same_tree q.2) all)

-- what is read as references is spelled so
pub refs_sound : IsSound SpellsRefs refs_of
unfolding refs_of
refs_sound lexemes rest refs e =
    let p = bind_some (table_reference_of lexemes) _ (refs, rest) e in
    let q = bind_some (more_of 3 p.0.1) _ (refs, rest) p.2 in
    let t = table_sound lexemes p.0.1 p.0.0 p.1 in
    let m = more_sound 3 p.0.1 q.0.1 q.0.0 q.1 in
    let front = t.front ++ m.begins.front in
    record {
      front = front;
      whole = t.whole ∙ ap (λ ls. t.front ++ ls) (m.begins.whole ∙ ap (λ ls. m.begins.front ++ ls) (same_rest q.2)) ∙ sym (append_assoc t.front m.begins.front rest);
      spelled = subst (SpellsRefs front) (same_tree q.2) (
        table_alone lexemes p.0.1 p.0.0 p.1,
        omega (arith, m.few),
        record { front = t.front; back = m.begins.front; split = refl; is_left = t.spelled; is_right = m.begins.spelled },
      );
    }

-- behind a reference stands one more, or what may stand behind all
more_starts : (front more : List Lexeme) (refs : List Ref) → StartsAmong behind_refs more → SpellsMore front refs → StartsAmong behind_ref (front ++ more)
more_starts front more [] end s = subst (StartsAmong behind_ref) (ap (λ ls. ls ++ more) (sym s)) (inr (inr (inr end)))
more_starts front more (ref ∷ refs) end s =
    let all : s.front ++ (s.back ++ more) ≡ front ++ more = sym (ap (λ ls. ls ++ more) s.split ∙ append_assoc s.front s.back more) in
    subst (StartsAmong behind_ref) all (next_starts s.front (s.back ++ more) ref ref.on s.is_left)

-- references behind the first are read, where there is room for them
more_complete : (room : ℕ) (front more : List Lexeme) (refs : List Ref) → length refs ≤ room → StartsAmong behind_refs more → SpellsMore front refs → more_of room (front ++ more) ≡ Some (refs, more)
more_complete zero front more [] few end s =
    ap (λ ls. more_of zero (ls ++ more)) s
    ∙ ap (option_and_then (λ (start : Option Start × List Lexeme). full_behind start.0 start.1)) (start_none more end)
more_complete (suc room) front more [] few end s =
    ap (λ ls. more_of (suc room) (ls ++ more)) s
    ∙ ap (option_and_then (λ (start : Option Start × List Lexeme). more_behind (more_of room) start.0 start.1)) (start_none more end)
more_complete zero front more (ref ∷ refs) few end s = absurd (omega arith)
more_complete (suc room) front more (ref ∷ refs) few end s =
    let rest = s.back ++ more in
    let all : front ++ more ≡ s.front ++ rest = ap (λ ls. ls ++ more) s.split ∙ append_assoc s.front s.back more in
    let one = next_complete s.front rest ref (more_starts s.back more refs end s.is_right) s.is_left in
    let others = more_complete room s.back more refs (omega arith) end s.is_right in
    ap (more_of (suc room)) all
    ∙ ap (option_and_then (λ (start : Option Start × List Lexeme). more_behind (more_of room) start.0 start.1)) one.starts
    ∙ ap (option_and_then (λ (found : Ref × List Lexeme). with_front (found.0 ∷ []) (more_of room found.1))) one.follows
    ∙ ap (with_front (ref ∷ [])) others

-- references are read
pub refs_complete : IsCompleteBefore SpellsRefs (StartsAmong behind_refs) refs_of
unfolding refs_of
refs_complete front more [] end s = elim s [ ]
refs_complete front more (ref ∷ refs) end s =
    let p = s.2 in
    let rest = p.back ++ more in
    let all : front ++ more ≡ p.front ++ rest = ap (λ ls. ls ++ more) p.split ∙ append_assoc p.front p.back more in
    let first = table_complete p.front rest ref (ends_table rest (more_starts p.back more refs end p.is_right)) p.is_left in
    let others = more_complete 3 p.back more refs (omega (arith, s.1)) end p.is_right in
    ap refs_of all
    ∙ ap (option_and_then (λ (found : Ref × List Lexeme). with_front (found.0 ∷ []) (more_of 3 found.1))) first
    ∙ ap (with_front (alone ref ∷ [])) others
    ∙ ap (λ on. Some (record { table = ref.table; alias = ref.alias; on = on } ∷ refs, more)) (sym s.0)

-- as far as a loop has read

-- The references so far, and those for which there is room, are all; and this is kept of those so far.
pub record RefsSoFar (all : Option (List Ref × List Lexeme)) (left : List Lexeme) (room : ℕ) (refs : Option (List Ref)) : Type 0 where
  pub front : List Ref
  pub same : with_front front (more_of room left) ≡ all
  pub keeps : Keeps (All IsRefInside) refs front

-- behind the first reference
pub refs_so_far_first : (lexemes mid : List Lexeme) (ref : Ref) → table_reference_of lexemes ≡ Some (ref, mid) → IsRefInside ref → RefsSoFar (refs_of lexemes) mid 3 (Some (ref ∷ []))
unfolding refs_of
refs_so_far_first lexemes mid ref e inside = record {
  front = ref ∷ [];
  same = sym (ap (option_and_then (λ (first : Ref × List Lexeme). with_front (first.0 ∷ []) (more_of 3 first.1))) e);
  keeps = keeps_pushed IsRefInside (Some []) (Some ref) [] ref (refl, All-nil IsRefInside) (refl, inside);
}

-- why the first reference fails is why all of them do
pub refs_first_fails : (lexemes : List Lexeme) (e : ReadFault) → Fails e (table_reference_of lexemes) → Fails e (refs_of lexemes)
unfolding refs_of
refs_first_fails lexemes e f = fails_bind e (table_reference_of lexemes) _ f

module _ (all : Option (List Ref × List Lexeme)) (left : List Lexeme) (room : ℕ) (refs : Option (List Ref)) (s : RefsSoFar all left room refs) where
  -- what reads by what begins, where there is room
  more_of-start : (start : Option Start) (mid : List Lexeme) (room : ℕ) → start_of left ≡ Some (start, mid) → more_of (suc room) left ≡ more_behind (more_of room) start mid
  more_of-start start mid room e = ap (option_and_then (λ (start : Option Start × List Lexeme). more_behind (more_of room) start.0 start.1)) e

  -- where there is no room
  more_of-full : (start : Option Start) (mid : List Lexeme) → start_of left ≡ Some (start, mid) → more_of zero left ≡ full_behind start mid
  more_of-full start mid e = ap (option_and_then (λ (start : Option Start × List Lexeme). full_behind start.0 start.1)) e

  -- no more references, and so all
  pub refs_so_far_all : (mid : List Lexeme) → start_of left ≡ Some (None, mid) → Took (All IsRefInside) refs mid all
  refs_so_far_all mid e = record {
    tree = s.front;
    reads = sym s.same ∙ ap (with_front s.front) (by_room room) ∙ ap (λ refs. Some (refs, mid)) (append-nil s.front);
    keeps = s.keeps;
  } where
    by_room : (room : ℕ) → more_of room left ≡ Some ([], mid)
    by_room zero = more_of-full None mid e
    by_room (suc room) = more_of-start None mid room e

  -- one more reference
  pub refs_so_far_more : (start : Start) (mid rest : List Lexeme) (fewer : ℕ) (kept : Option Ref) (ref : Ref) → room ≡ suc fewer → start_of left ≡ Some (Some start, mid) → following_of start mid ≡ Some (ref, rest) → Keeps IsRefInside kept ref → RefsSoFar all rest fewer (pushed refs kept)
  refs_so_far_more start mid rest fewer kept ref one starts follows k = record {
    front = s.front ++ ref ∷ [];
    same =
        sym (with_front-append s.front (ref ∷ []) (more_of fewer rest))
        ∙ ap (with_front s.front) (sym (
        more_of-start (Some start) mid fewer starts
        ∙ ap (option_and_then (λ (found : Ref × List Lexeme). with_front (found.0 ∷ []) (more_of fewer found.1))) follows
        ))
        ∙ ap (λ room. with_front s.front (more_of room left)) (sym one)
        ∙ s.same;
    keeps = keeps_pushed IsRefInside refs kept s.front ref s.keeps k;
  }
