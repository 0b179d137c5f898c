-- A SELECT is shown by tokens that spell it.
use Rattle.std.proofs.Common.{List, [], ◌∷◌, ◌++◌, refl, codes}
use Rattle.std.proofs.lemmas.List.Elements.{All-cons, All-tail, All-append}
use Rattle.std.specs.List.{All}
use Rattle.mt_lexer.specs.Tokens.{Lexeme, Word}
use Rattle.mt_statements.specs.Query.{SpellsSelect}
use Rattle.mt_show.specs.Text.{IsWritten}
use Rattle.mt_show.specs.Shown.{flag_tokens}
use Rattle.mt_show.specs.Statements.{clause_tokens, items_tokens, refs_tokens, group_tokens, order_tokens, limit_tokens, select_tokens}
use Rattle.mt_show.proofs.ShownForms.{Shows, All-both, All-behind, written_between}
use Rattle.mt_show.proofs.ShownAtoms.{keyword, flag_shows}
use Rattle.mt_show.proofs.ShownParts.{clause_shows, items_show, refs_show, group_shows, order_shows, limit_shows}

-- each of the tokens can be written
abbrev Written : List Lexeme → Type 0
Written tokens = All IsWritten tokens

module _ (refs condition group having order limit : List Lexeme) where
  -- the tokens behind FROM, from the parts that stand there
  abbrev behind_from : List Lexeme
  behind_from = refs ++ condition ++ group ++ having ++ order ++ limit

  -- where each of these parts can be written, the whole can
  behind_written : Written refs → Written condition → Written group → Written having → Written order → Written limit → Written behind_from
  behind_written r c g h o l =
      let third = All-append IsWritten (refs ++ condition) group (All-append IsWritten refs condition r c) g in
      let fifth = All-append IsWritten (refs ++ condition ++ group ++ having) order (All-append IsWritten (refs ++ condition ++ group) having third h) o in
      All-append IsWritten (refs ++ condition ++ group ++ having ++ order) limit fifth l

-- and so where each part about FROM can
parts_written : (distinct items behind : List Lexeme) → Written distinct → Written items → Written behind → Written (Word (codes "select") ∷ (distinct ++ items ++ Word (codes "from") ∷ behind))
parts_written distinct items behind d i b =
    All-cons IsWritten (Word (codes "select")) (distinct ++ items ++ Word (codes "from") ∷ behind) (keyword (codes "select") refl)
    (written_between (distinct ++ items) (Word (codes "from")) behind (keyword (codes "from") refl) (All-append IsWritten distinct items d i) b)

-- each part of a SELECT is written, and so each is shown
pub select_shows : Shows SpellsSelect select_tokens
select_shows select tokens w s =
    let back = behind_from s.refs s.condition s.group s.having s.order s.limit in
    let head = All-both IsWritten (s.distinct ++ s.items) (Word (codes "from") ∷ back) (All-behind IsWritten tokens [] (Word (codes "select")) (s.distinct ++ s.items ++ Word (codes "from") ∷ back) s.spelling w) in
    let first = All-both IsWritten s.distinct s.items head.0 in
    let behind = All-tail IsWritten (Word (codes "from")) back head.1 in
    let sixth = All-both IsWritten (s.refs ++ s.condition ++ s.group ++ s.having ++ s.order) s.limit behind in
    let fifth = All-both IsWritten (s.refs ++ s.condition ++ s.group ++ s.having) s.order sixth.0 in
    let fourth = All-both IsWritten (s.refs ++ s.condition ++ s.group) s.having fifth.0 in
    let third = All-both IsWritten (s.refs ++ s.condition) s.group fourth.0 in
    let second = All-both IsWritten s.refs s.condition third.0 in
    let distinct = flag_shows (codes "distinct") select.distinct s.distinct first.0 s.is_distinct in
    let items = items_show select.items s.items first.1 s.are_items in
    let refs = refs_show select.refs s.refs second.0 s.are_refs in
    let condition = clause_shows (codes "where") refl select.cond s.condition second.1 s.is_condition in
    let group = group_shows select.group s.group third.1 s.is_group in
    let having = clause_shows (codes "having") refl select.having s.having fourth.1 s.is_having in
    let order = order_shows select.order s.order fifth.1 s.is_order in
    let limit = limit_shows select.limit s.limit sixth.1 s.is_limit in (
      record {
        distinct = flag_tokens (codes "distinct") select.distinct;
        items = items_tokens select.items;
        refs = refs_tokens select.refs;
        condition = clause_tokens (codes "where") select.cond;
        group = group_tokens select.group;
        having = clause_tokens (codes "having") select.having;
        order = order_tokens select.order;
        limit = limit_tokens select.limit;
        spelling = refl;
        is_distinct = distinct.0;
        are_items = items.0;
        are_refs = refs.0;
        is_condition = condition.0;
        is_group = group.0;
        is_having = having.0;
        is_order = order.0;
        is_limit = limit.0;
      },
      parts_written (flag_tokens (codes "distinct") select.distinct) (items_tokens select.items) _ distinct.1 items.1
          (behind_written (refs_tokens select.refs) (clause_tokens (codes "where") select.cond) (group_tokens select.group) (clause_tokens (codes "having") select.having) (order_tokens select.order) (limit_tokens select.limit) refs.1 condition.1 group.1 having.1 order.1 limit.1),
    )
