-- SELECT: what is read is spelled so, and what is spelled so is read.
use Rattle.std.proofs.Common.{◌≡◌, Bool, true, false, Option, Some, None, List, [], ◌∷◌, ◌++◌, refl, sym, ap, ◌∙◌, subst, append_assoc, inl}
use Rattle.std.specs.Prelude.{codes}
use Rattle.mt_lexer.specs.Tokens.{Lexeme, Word}
use Rattle.mt_tree.specs.declared.statement.Select.{Select}
use Rattle.mt_tree.specs.declared.statement.Item.{Item}
use Rattle.mt_tree.specs.declared.statement.Ref.{Ref}
use Rattle.mt_reader.specs.Descent.{after, either, separated_of, joined_of}
use Rattle.mt_reader.specs.Forms.{Flag, word}
use Rattle.mt_reader.specs.Fronts.{Begins, AtEnd}
use Rattle.mt_lexer.specs.Reserved.{reserved}
use Rattle.mt_reader.proofs.Eithers.{either_some}
use Rattle.mt_reader.proofs.Fronts.{none_after}
use Rattle.mt_reader.proofs.Shrinking.{bind_some, same_tree, same_rest}
use Rattle.mt_reader.proofs.Spelling.{IsSound, IsCompleteBefore, after_is}
use Rattle.mt_terms.specs.Descent.{agg_of, reserved_atom_of, atom_of, alone_of, factor_of, term_of, terms_of, sum_of, expr_of}
use Rattle.mt_statements.specs.declared.clauses.Clauses.{Clauses}
use Rattle.mt_statements.specs.QueryDescent.{flag_of, item_of, select_items_of, refs_of, clauses_of, select_with, select_of}
use Rattle.mt_statements.specs.Query.{SpellsItems, SpellsRefs, SpellsSelect}
use Rattle.mt_statements.proofs.Endings.{SpellsClauses, in_front, clauses_sound, clauses_complete, clauses_among}
use Rattle.mt_statements.proofs.Outputs.{items_sound, items_complete}
use Rattle.mt_statements.proofs.Refs.{refs_sound, refs_complete}

-- DISTINCT

-- what is read as DISTINCT is spelled so
distinct_sound : IsSound (Flag (word (codes "distinct"))) (flag_of (Word (codes "distinct")))
unfolding flag_of
distinct_sound lexemes rest distinct e = either_some (after (Word (codes "distinct")) lexemes) (λ left. Some (true, left)) _ (distinct, rest) written none e where
  written : (left : List Lexeme) → after (Word (codes "distinct")) lexemes ≡ Some left → ◌≡◌ {A = Option (Bool × List Lexeme)} (Some (true, left)) (Some (distinct, rest)) → Begins (Flag (word (codes "distinct"))) lexemes rest distinct
  written left a e = record {
    front = Word (codes "distinct") ∷ [];
    whole = after_is _ lexemes left a ∙ ap (λ ls. Word (codes "distinct") ∷ ls) (same_rest e);
    spelled = subst (Flag (word (codes "distinct")) (Word (codes "distinct") ∷ [])) (same_tree e) refl;
  }

  none : ◌≡◌ {A = Option (Bool × List Lexeme)} (Some (false, lexemes)) (Some (distinct, rest)) → Begins (Flag (word (codes "distinct"))) lexemes rest distinct
  none e = record { front = []; whole = same_rest e; spelled = subst (Flag (word (codes "distinct")) []) (same_tree e) refl }

-- no item begins with DISTINCT
distinct_unread : (rest : List Lexeme) → select_items_of (Word (codes "distinct") ∷ rest) ≡ None
unfolding select_items_of separated_of item_of expr_of sum_of terms_of term_of joined_of factor_of alone_of atom_of reserved reserved_atom_of agg_of after
distinct_unread rest = refl

-- and so DISTINCT is no item
no_distinct : (lexemes rest : List Lexeme) (items : List Item) → select_items_of lexemes ≡ Some (items, rest) → after (Word (codes "distinct")) lexemes ≡ None
no_distinct lexemes rest items e =
    none_after (Word (codes "distinct")) lexemes (λ left h. let both : None ≡ Some (items, rest) = sym (distinct_unread left) ∙ ap select_items_of (sym h) ∙ e in cc)

-- DISTINCT is read, where it does not follow
distinct_complete : (front more : List Lexeme) (distinct : Bool) → after (Word (codes "distinct")) more ≡ None → Flag (word (codes "distinct")) front distinct → flag_of (Word (codes "distinct")) (front ++ more) ≡ Some (distinct, more)
unfolding flag_of after
distinct_complete front more true none s = rw s refl
distinct_complete front more false none s =
    ap (λ ls. flag_of (Word (codes "distinct")) (ls ++ more)) s ∙ ap (λ found. either found (λ rest. Some (true, rest)) (Some (false, more))) none

-- SELECT

-- the parts of a SELECT, from the left and from the right
regrouped : (distinct items refs condition group having order limit : List Lexeme) → Word (codes "select") ∷ (distinct ++ items ++ Word (codes "from") ∷ (refs ++ condition ++ group ++ having ++ order ++ limit)) ≡ Word (codes "select") ∷ (distinct ++ (items ++ Word (codes "from") ∷ (refs ++ (condition ++ (group ++ (having ++ (order ++ limit)))))))
regrouped distinct items refs condition group having order limit =
    let clauses =
    append_assoc (refs ++ condition ++ group ++ having) order limit
    ∙ append_assoc (refs ++ condition ++ group) having (order ++ limit)
    ∙ append_assoc (refs ++ condition) group (having ++ (order ++ limit))
    ∙ append_assoc refs condition (group ++ (having ++ (order ++ limit))) in
    ap (λ ls. Word (codes "select") ∷ (distinct ++ items ++ Word (codes "from") ∷ ls)) clauses
    ∙ ap (λ ls. Word (codes "select") ∷ ls) (append_assoc distinct items _)

-- the parts of a SELECT one behind the other
parts_begin : (lexemes first second third fourth fifth rest : List Lexeme) (distinct : Bool) (items : List Item) (refs : List Ref) (clauses : Clauses) → lexemes ≡ Word (codes "select") ∷ first → Begins (Flag (word (codes "distinct"))) first second distinct → Begins SpellsItems second third items → third ≡ Word (codes "from") ∷ fourth → Begins SpellsRefs fourth fifth refs → Begins SpellsClauses fifth rest clauses → Begins SpellsSelect lexemes rest (select_with distinct items refs clauses)
parts_begin lexemes first second third fourth fifth rest distinct items refs clauses select d i from r c =
    let s = c.spelled in
    let parts = s.condition ++ (s.grouped ++ (s.filtered ++ (s.ordered ++ s.limited))) in
    let behind_from = in_front fourth r.front fifth parts rest r.whole (c.whole ∙ ap (λ ls. ls ++ rest) s.spelling) in
    let behind_items = Word (codes "from") ∷ (r.front ++ parts) in
    let behind_distinct = in_front second i.front third behind_items rest i.whole (from ∙ ap (λ ls. Word (codes "from") ∷ ls) behind_from) in
    let behind_select = in_front first d.front second (i.front ++ behind_items) rest d.whole behind_distinct in
    record {
      front = Word (codes "select") ∷ (d.front ++ (i.front ++ behind_items));
      whole = select ∙ ap (λ ls. Word (codes "select") ∷ ls) behind_select;
      spelled = record {
        distinct = d.front;
        items = i.front;
        refs = r.front;
        condition = s.condition;
        group = s.grouped;
        having = s.filtered;
        order = s.ordered;
        limit = s.limited;
        spelling = sym (regrouped d.front i.front r.front s.condition s.grouped s.filtered s.ordered s.limited);
        is_distinct = d.spelled;
        are_items = i.spelled;
        are_refs = r.spelled;
        is_condition = s.is_condition;
        is_group = s.is_group;
        is_having = s.is_having;
        is_order = s.is_order;
        is_limit = s.is_limit;
      };
    }

-- what is read as a SELECT is one
pub select_sound : IsSound SpellsSelect select_of
unfolding select_of
select_sound lexemes rest select e =
    let a = bind_some (after (Word (codes "select")) lexemes) _ (select, rest) e in
    let b = bind_some (flag_of (Word (codes "distinct")) a.0) _ (select, rest) a.2 in
    let c = bind_some (select_items_of b.0.1) _ (select, rest) b.2 in
    let d = bind_some (after (Word (codes "from")) c.0.1) _ (select, rest) c.2 in
    let f = bind_some (refs_of d.0) _ (select, rest) d.2 in
    let g = bind_some (clauses_of f.0.1) _ (select, rest) f.2 in
    let distinct = distinct_sound a.0 b.0.1 b.0.0 b.1 in
    let items = items_sound b.0.1 c.0.1 c.0.0 c.1 in
    let refs = refs_sound d.0 f.0.1 f.0.0 f.1 in
    let clauses = clauses_sound f.0.1 g.0.1 g.0.0 g.1 in
    let all = parts_begin lexemes a.0 b.0.1 c.0.1 d.0 f.0.1 g.0.1 b.0.0 c.0.0 f.0.0 g.0.0 (after_is _ lexemes a.0 a.1) distinct items (after_is _ c.0.1 d.0 d.1) refs clauses in
    subst (λ left. Begins SpellsSelect lexemes left select) (same_rest g.2) (subst (Begins SpellsSelect lexemes g.0.1) (same_tree g.2) all)

-- the clauses of a SELECT
abbrev clauses_in : Select → Clauses
clauses_in select = record { cond = select.cond; group = select.group; having = select.having; order = select.order; limit = select.limit }

-- a SELECT is read, up to the end
pub select_follows : IsCompleteBefore SpellsSelect AtEnd select_of
unfolding select_of after
select_follows front more select end s =
    let parts = s.condition ++ (s.group ++ (s.having ++ (s.order ++ s.limit))) in
    let spelled : SpellsClauses parts (clauses_in select) = record {
      condition = s.condition;
      grouped = s.group;
      filtered = s.having;
      ordered = s.order;
      limited = s.limit;
      spelling = refl;
      is_condition = s.is_condition;
      is_group = s.is_group;
      is_having = s.is_having;
      is_order = s.is_order;
      is_limit = s.is_limit;
    } in
    let third = parts ++ more in
    let second = s.refs ++ third in
    let first = s.items ++ Word (codes "from") ∷ second in
    let all : front ++ more ≡ Word (codes "select") ∷ (s.distinct ++ first) =
    ap (λ ls. ls ++ more) (s.spelling ∙ regrouped s.distinct s.items s.refs s.condition s.group s.having s.order s.limit)
    ∙ ap (λ ls. Word (codes "select") ∷ ls) (
    append_assoc s.distinct (s.items ++ Word (codes "from") ∷ (s.refs ++ parts)) more
    ∙ ap (λ ls. s.distinct ++ ls) (
    append_assoc s.items (Word (codes "from") ∷ (s.refs ++ parts)) more
    ∙ ap (λ ls. s.items ++ Word (codes "from") ∷ ls) (append_assoc s.refs parts more)
    )
    ) in
    let items = items_complete s.items (Word (codes "from") ∷ second) select.items (inl (second, refl)) s.are_items in
    let distinct = distinct_complete s.distinct first select.distinct (no_distinct first (Word (codes "from") ∷ second) select.items items) s.is_distinct in
    let refs = refs_complete s.refs third select.refs (clauses_among parts more (clauses_in select) spelled end) s.are_refs in
    let clauses = clauses_complete parts more (clauses_in select) end spelled in
    rw (all, distinct, items, refs, clauses) refl
