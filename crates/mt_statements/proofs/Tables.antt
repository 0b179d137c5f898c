-- References: what is read is spelled so, and what is spelled so is read.
use Rattle.std.proofs.Common.{◌≡◌, ℕ, Bool, true, false, not, Option, Some, None, List, [], ◌∷◌, ◌++◌, refl, sym, ap, ◌∙◌, subst, append_assoc, inl, inr}
use Rattle.std.specs.Option.{option_and_then}
use Rattle.std.specs.Prelude.{codes}
use Rattle.mt_lexer.specs.declared.token.Symbol.TheVariants as symbol
use Rattle.mt_lexer.specs.Tokens.{Lexeme, Word, Sign}
use Rattle.mt_tree.specs.declared.expression.Cond.{Cond}
use Rattle.mt_tree.specs.declared.statement.Ref.{Ref}
use Rattle.mt_reader.specs.Descent.{after, name_of, begins_with_name}
use Rattle.mt_lexer.specs.Reserved.{is_reserved_name}
use Rattle.mt_reader.specs.Forms.{Maybe, Parts, Flag, word}
use Rattle.mt_reader.specs.Fronts.{Begins}
use Rattle.mt_reader.specs.Names.{IsName}
use Rattle.mt_lexer.specs.Reserved.{reserved}
use Rattle.mt_reader.proofs.Eithers.{either_some}
use Rattle.mt_reader.proofs.Parts.{name_sound, name_complete}
use Rattle.mt_reader.proofs.Shrinking.{bind_some, same_tree, same_rest}
use Rattle.mt_reader.proofs.Spelling.{IsSound, after_is, name_is}
use Rattle.mt_terms.specs.Condition.{SpellsCond}
use Rattle.mt_terms.specs.Descent.{cond_of}
use Rattle.mt_terms.specs.Follow.{cond_goes_on}
use Rattle.mt_terms.proofs.Conditions.{cond_sound}
use Rattle.mt_terms.proofs.Follow.{cond_follows}
use Rattle.mt_statements.specs.declared.reference.Start.{Start}
use Rattle.mt_statements.specs.declared.reference.Start.TheVariants.{Listed, Joined}
use Rattle.mt_statements.specs.QueryDescent.{alias_of, alias_behind, table_reference_of, start_of, inner_of, joined_reference_of, following_of}
use Rattle.mt_statements.specs.Query.{SpellsAlias, SpellsTable, SpellsJoined, SpellsFollowing}
use Rattle.mt_statements.proofs.Outputs.{SpellsAsName, as_name_sound, as_name_complete}
use Rattle.mt_statements.proofs.Pairs.{pair_sound}
use Rattle.mt_statements.proofs.Starts.{StartsAmong, behind_refs, among_none, among_begins_none, among_no_name}

-- tables

-- what is read as an alias is one
alias_sound : IsSound (Maybe SpellsAlias) alias_of
unfolding alias_of
alias_sound lexemes rest alias e = by_name (begins_with_name lexemes) e where
  as_alias : (front : List Lexeme) (alias : Option (List ℕ)) → SpellsAsName front alias → Maybe SpellsAlias front alias
  as_alias front None s = s
  as_alias front (Some name) s = inr s

  by_name : (named : Bool) → alias_behind named lexemes ≡ Some (alias, rest) → Begins (Maybe SpellsAlias) lexemes rest alias
  by_name true e =
      let p = bind_some (name_of lexemes) _ (alias, rest) e in
      let n = name_is lexemes p.0.1 p.0.0 p.1 in
      record {
        front = Word p.0.0 ∷ [];
        whole = n.0 ∙ ap (λ ls. Word p.0.0 ∷ ls) (same_rest p.2);
        spelled = subst (Maybe SpellsAlias (Word p.0.0 ∷ [])) (same_tree p.2) (inl (refl, n.1));
      }
  by_name false e =
      let s = as_name_sound lexemes rest alias e in
      record { front = s.front; whole = s.whole; spelled = as_alias s.front alias s.spelled }

-- no name comes next, and no AS
abbrev pub EndsTable : List Lexeme → Type 0
EndsTable tokens = (begins_with_name tokens ≡ false) × (after (Word (codes "as")) tokens ≡ None)

-- a name is read as an alias
alias_named : (name : List ℕ) (more : List Lexeme) → is_reserved_name name ≡ false → alias_of (Word name ∷ more) ≡ Some (Some name, more)
unfolding alias_of
alias_named name more free =
    ap (λ reserved. alias_behind (not reserved) (Word name ∷ more)) free
    ∙ ap (option_and_then (λ (name : List ℕ × List Lexeme). Some (Some name.0, name.1))) (name_complete (Word name ∷ []) more name (refl, free))

-- an alias is read, where no other name follows
alias_complete : (front more : List Lexeme) (alias : Option (List ℕ)) → EndsTable more → Maybe SpellsAlias front alias → alias_of (front ++ more) ≡ Some (alias, more)
unfolding alias_of reserved
alias_complete front more None end s =
    ap (λ ls. alias_behind (begins_with_name (ls ++ more)) (ls ++ more)) s
    ∙ ap (λ named. alias_behind named more) end.0
    ∙ as_name_complete [] more None end.1 refl
alias_complete front more (Some name) end s = elim s [
  | inl n ↦ ap (λ ls. alias_of (ls ++ more)) n.0 ∙ alias_named name more n.1
  | inr b ↦
      ap (λ ls. alias_behind (begins_with_name (ls ++ more)) (front ++ more)) (b.prefix ∙ ap (λ ls. Word (codes "as") ∷ ls) b.body.0)
      ∙ as_name_complete front more (Some name) end.1 b
]

-- what is read as a table is one
pub table_sound : IsSound SpellsTable table_reference_of
unfolding table_reference_of
table_sound = pair_sound IsName (Maybe SpellsAlias) SpellsTable name_of alias_of (λ table alias. record { table = table; alias = alias; on = None }) name_sound alias_sound (λ table alias tokens s. s)

-- a table is read without a condition
pub table_alone : (lexemes rest : List Lexeme) (ref : Ref) → table_reference_of lexemes ≡ Some (ref, rest) → ref.on ≡ None
unfolding table_reference_of
table_alone lexemes rest ref e =
    let a = bind_some (name_of lexemes) _ (ref, rest) e in
    let b = bind_some (alias_of a.0.1) _ (ref, rest) a.2 in
    sym (ap (λ (r : Ref). r.on) (same_tree b.2))

-- the reference that is a table and no more
abbrev pub alone : Ref → Ref
alone ref = record { table = ref.table; alias = ref.alias; on = None }

-- a table is read, where no name follows
pub table_complete : (front more : List Lexeme) (ref : Ref) → EndsTable more → SpellsTable front ref → table_reference_of (front ++ more) ≡ Some (alone ref, more)
unfolding table_reference_of name_of
table_complete front more ref end s =
    let all : front ++ more ≡ Word ref.table ∷ (s.back ++ more) = ap (λ ls. ls ++ more) (s.split ∙ ap (λ ls. ls ++ s.back) s.is_left.0) in
    let alias = alias_complete s.back more ref.alias end s.is_right in
    rw (all, s.is_left.1, alias) refl

-- what a reference begins with

-- a comma, or [INNER] JOIN
abbrev pub SpellsStart : List Lexeme → Start → Type 0
SpellsStart tokens Listed = tokens ≡ Sign symbol.Comma ∷ []
SpellsStart tokens Joined = (inner : Bool) × Parts (λ front. Flag (word (codes "inner")) front inner) (λ back. back ≡ Word (codes "join") ∷ []) tokens

-- the start with INNER or without
joined_start : (inner : Bool) (front : List Lexeme) → Flag (word (codes "inner")) front inner → SpellsStart (front ++ Word (codes "join") ∷ []) Joined
joined_start inner front s = (inner, record { front = front; back = Word (codes "join") ∷ []; split = refl; is_left = s; is_right = refl })

-- what is read as a start is one
pub start_sound : IsSound (Maybe SpellsStart) start_of
unfolding start_of
start_sound lexemes rest start e =
    either_some (after (Sign symbol.Comma) lexemes) (λ left. Some (Some Listed, left)) _ (start, rest) (λ left a e. one (Sign symbol.Comma) Listed refl left a e)
    (λ e. either_some (after (Word (codes "inner")) lexemes) inner_of _ (start, rest) by_inner
    (λ e. either_some (after (Word (codes "join")) lexemes) (λ left. Some (Some Joined, left)) _ (start, rest) (λ left a e. one (Word (codes "join")) Joined (joined_start false [] refl) left a e) none e) e) e where
      one : (lexeme : Lexeme) (found : Start) → SpellsStart (lexeme ∷ []) found → (left : List Lexeme) → after lexeme lexemes ≡ Some left → ◌≡◌ {A = Option (Option Start × List Lexeme)} (Some (Some found, left)) (Some (start, rest)) → Begins (Maybe SpellsStart) lexemes rest start
      one lexeme found s left a e = record {
        front = lexeme ∷ [];
        whole = after_is _ lexemes left a ∙ ap (λ ls. lexeme ∷ ls) (same_rest e);
        spelled = subst (Maybe SpellsStart (lexeme ∷ [])) (same_tree e) s;
      }

      by_inner : (left : List Lexeme) → after (Word (codes "inner")) lexemes ≡ Some left → inner_of left ≡ Some (start, rest) → Begins (Maybe SpellsStart) lexemes rest start
      by_inner left a e =
          let p = bind_some (after (Word (codes "join")) left) _ (start, rest) e in
          let front = Word (codes "inner") ∷ Word (codes "join") ∷ [] in
          record {
            front = front;
            whole = after_is _ lexemes left a ∙ ap (λ ls. Word (codes "inner") ∷ ls) (after_is _ left p.0 p.1 ∙ ap (λ ls. Word (codes "join") ∷ ls) (same_rest p.2));
            spelled = subst (Maybe SpellsStart front) (same_tree p.2) (joined_start true (word (codes "inner")) refl);
          }

      none : ◌≡◌ {A = Option (Option Start × List Lexeme)} (Some (None, lexemes)) (Some (start, rest)) → Begins (Maybe SpellsStart) lexemes rest start
      none e = record { front = []; whole = same_rest e; spelled = subst (Maybe SpellsStart []) (same_tree e) refl }

-- a comma is read
comma_reads : (more : List Lexeme) → start_of (Sign symbol.Comma ∷ more) ≡ Some (Some Listed, more)
unfolding start_of after
comma_reads more = refl

-- [INNER] JOIN is read
join_reads : (inner : Bool) (front more : List Lexeme) → Flag (word (codes "inner")) front inner → start_of (front ++ Word (codes "join") ∷ more) ≡ Some (Some Joined, more)
unfolding start_of after
join_reads true front more s = rw s refl
join_reads false front more s = rw s refl

-- where none of these follows no reference begins
pub start_none : (more : List Lexeme) → StartsAmong behind_refs more → start_of more ≡ Some (None, more)
unfolding start_of
start_none more s =
    rw (among_none (Sign symbol.Comma) behind_refs more refl s, among_none (Word (codes "inner")) behind_refs more refl s, among_none (Word (codes "join")) behind_refs more refl s) refl

-- references behind the first

-- a reference behind the first
abbrev pub SpellsNext : List Lexeme → Ref → Type 0
SpellsNext tokens ref = SpellsFollowing tokens ref ref.on

-- how a reference is joined
joined_spelled : (start front back : List Lexeme) (ref : Ref) (on : Cond) → SpellsStart start Joined → SpellsTable front ref → SpellsCond back on → SpellsJoined (start ++ (front ++ Word (codes "on") ∷ back)) ref on
joined_spelled start front back ref on s t c =
    let j = s.1 in
    let rest = front ++ Word (codes "on") ∷ back in (
      s.0,
      record {
        front = j.front;
        back = Word (codes "join") ∷ rest;
        split = ap (λ ls. ls ++ rest) (j.split ∙ ap (λ ls. j.front ++ ls) j.is_right) ∙ append_assoc j.front (Word (codes "join") ∷ []) rest;
        is_left = j.is_left;
        is_right = record {
          front = Word (codes "join") ∷ front;
          back = Word (codes "on") ∷ back;
          split = refl;
          is_left = record { inner = front; prefix = refl; body = t };
          is_right = record { inner = back; prefix = refl; body = c };
        };
      },
    )

-- what is read as one more reference is one
pub next_sound : (lexemes mid rest : List Lexeme) (start : Start) (ref : Ref) → Begins (Maybe SpellsStart) lexemes mid (Some start) → following_of start mid ≡ Some (ref, rest) → Begins SpellsNext lexemes rest ref
unfolding following_of joined_reference_of
next_sound lexemes mid rest Listed ref b e =
    let s = table_sound mid rest ref e in
    let front = b.front ++ s.front in
    record {
      front = front;
      whole = b.whole ∙ ap (λ ls. b.front ++ ls) s.whole ∙ sym (append_assoc b.front s.front rest);
      spelled = subst (SpellsFollowing front ref) (sym (table_alone mid rest ref e)) (record { inner = s.front; prefix = ap (λ ls. ls ++ s.front) b.spelled; body = s.spelled });
    }
next_sound lexemes mid rest Joined ref b e =
    let p = bind_some (table_reference_of mid) _ (ref, rest) e in
    let q = bind_some (after (Word (codes "on")) p.0.1) _ (ref, rest) p.2 in
    let r = bind_some (cond_of q.0) _ (ref, rest) q.2 in
    let t = table_sound mid p.0.1 p.0.0 p.1 in
    let c = cond_sound q.0 r.0.1 r.0.0 r.1 in
    let table : Ref = record { table = p.0.0.table; alias = p.0.0.alias; on = Some r.0.0 } in
    let back = t.front ++ Word (codes "on") ∷ c.front in
    let front = b.front ++ back in
    let behind : p.0.1 ≡ Word (codes "on") ∷ (c.front ++ rest) = after_is _ p.0.1 q.0 q.1 ∙ ap (λ ls. Word (codes "on") ∷ ls) (c.whole ∙ ap (λ ls. c.front ++ ls) (same_rest r.2)) in
    let inside : mid ≡ back ++ rest = t.whole ∙ ap (λ ls. t.front ++ ls) behind ∙ sym (append_assoc t.front (Word (codes "on") ∷ c.front) rest) in
    record {
      front = front;
      whole = b.whole ∙ ap (λ ls. b.front ++ ls) inside ∙ sym (append_assoc b.front back rest);
      spelled = subst (SpellsNext front) (same_tree r.2) (joined_spelled b.front t.front c.front table r.0.0 b.spelled t.spelled c.spelled);
    }

-- the starts of what may stand behind each reference
abbrev pub behind_ref : List Lexeme
behind_ref = Sign symbol.Comma ∷ Word (codes "inner") ∷ Word (codes "join") ∷ behind_refs

-- a table ends there
pub ends_table : (more : List Lexeme) → StartsAmong behind_ref more → EndsTable more
unfolding reserved
ends_table more s = (among_no_name behind_ref more refl s, among_none (Word (codes "as")) behind_ref more refl s)

-- and before ON
ends_before_on : (more : List Lexeme) → EndsTable (Word (codes "on") ∷ more)
unfolding after reserved
ends_before_on more = (refl, refl)

-- One more reference is read: what it begins with, and what stands behind that.
pub record NextReads (tokens more : List Lexeme) (ref : Ref) : Type 0 where
  pub start : Start
  pub mid : List Lexeme
  pub starts : start_of tokens ≡ Some (Some start, mid)
  pub follows : following_of start mid ≡ Some (ref, more)

-- a table, ON and a condition are read
joined_complete : (front back more : List Lexeme) (ref : Ref) (on : Cond) → ref.on ≡ Some on → StartsAmong behind_ref more → SpellsTable front ref → SpellsCond back on → joined_reference_of (front ++ Word (codes "on") ∷ (back ++ more)) ≡ Some (ref, more)
unfolding joined_reference_of after
joined_complete front back more ref on same end t c =
    let table = table_complete front (Word (codes "on") ∷ (back ++ more)) ref (ends_before_on (back ++ more)) t in
    let cond = cond_follows back more on (among_begins_none behind_ref cond_goes_on more refl refl end) c in
    let read : joined_reference_of (front ++ Word (codes "on") ∷ (back ++ more)) ≡ Some (record { table = ref.table; alias = ref.alias; on = Some on }, more) = rw (table, cond) refl in
    read ∙ ap (λ (found : Option Cond). Some (record { table = ref.table; alias = ref.alias; on = found }, more)) (sym same)

-- one more reference is read, where none of its words follows
next_by : (front more : List Lexeme) (ref : Ref) (on : Option Cond) → ref.on ≡ on → StartsAmong behind_ref more → SpellsFollowing front ref on → NextReads (front ++ more) more ref
unfolding following_of
next_by front more ref None same end s = record {
  start = Listed;
  mid = s.inner ++ more;
  starts = ap (λ ls. start_of (ls ++ more)) s.prefix ∙ comma_reads (s.inner ++ more);
  follows = table_complete s.inner more ref (ends_table more end) s.body ∙ ap (λ (found : Option Cond). Some (record { table = ref.table; alias = ref.alias; on = found }, more)) (sym same);
}
next_by front more ref (Some on) same end s =
    let j = s.1 in
    let t = j.is_right.is_left in
    let c = j.is_right.is_right in
    let rest = t.inner ++ Word (codes "on") ∷ (c.inner ++ more) in
    let behind : j.back ≡ Word (codes "join") ∷ (t.inner ++ Word (codes "on") ∷ c.inner) = cc (j.is_right.split, t.prefix, c.prefix) in
    let all : front ++ more ≡ j.front ++ Word (codes "join") ∷ rest =
    ap (λ ls. ls ++ more) (j.split ∙ ap (λ ls. j.front ++ ls) behind)
    ∙ append_assoc j.front (Word (codes "join") ∷ (t.inner ++ Word (codes "on") ∷ c.inner)) more
    ∙ ap (λ ls. j.front ++ Word (codes "join") ∷ ls) (append_assoc t.inner (Word (codes "on") ∷ c.inner) more) in
    record {
      start = Joined;
      mid = rest;
      starts = ap start_of all ∙ join_reads s.0 j.front rest j.is_left;
      follows = joined_complete t.inner c.inner more ref on same end t.body c.body;
    }

-- by its own condition
pub next_complete : (front more : List Lexeme) (ref : Ref) → StartsAmong behind_ref more → SpellsNext front ref → NextReads (front ++ more) more ref
next_complete front more ref end s = next_by front more ref ref.on refl end s

-- a reference begins with one of its words
pub next_starts : (front more : List Lexeme) (ref : Ref) (on : Option Cond) → SpellsFollowing front ref on → StartsAmong behind_ref (front ++ more)
next_starts front more ref None s = inl (s.inner ++ more, ap (λ ls. ls ++ more) s.prefix)
next_starts front more ref (Some on) s =
    let j = s.1 in
    let t = j.is_right.is_left in
    let joined : j.back ≡ Word (codes "join") ∷ (t.inner ++ j.is_right.back) = j.is_right.split ∙ ap (λ ls. ls ++ j.is_right.back) t.prefix in
    let whole : front ≡ j.front ++ Word (codes "join") ∷ (t.inner ++ j.is_right.back) = j.split ∙ ap (λ ls. j.front ++ ls) joined in
    by_inner s.0 j.front (t.inner ++ j.is_right.back) j.is_left whole where
      by_inner : (inner : Bool) (flag behind : List Lexeme) → Flag (word (codes "inner")) flag inner → front ≡ flag ++ Word (codes "join") ∷ behind → StartsAmong behind_ref (front ++ more)
      by_inner true flag behind f e = inr (inl (Word (codes "join") ∷ (behind ++ more), ap (λ ls. ls ++ more) (e ∙ ap (λ ls. ls ++ Word (codes "join") ∷ behind) f)))
      by_inner false flag behind f e = inr (inr (inl (behind ++ more, ap (λ ls. ls ++ more) (e ∙ ap (λ ls. ls ++ Word (codes "join") ∷ behind) f))))
