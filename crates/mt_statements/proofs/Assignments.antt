-- Assignments and UPDATE: what is read is spelled so, and what is spelled so is read.
use Rattle.std.proofs.Common.{◌≡◌, ℕ, ◌<◌, false, Option, Some, List, [], ◌∷◌, ◌++◌, length, refl, sym, ap, ◌∙◌, subst, append_assoc, inl, inr, arith}
use Rattle.std.specs.Option.{option_map}
use Rattle.std.specs.Prelude.{codes}
use Rattle.mt_lexer.specs.declared.token.Symbol.TheVariants as symbol
use Rattle.mt_lexer.specs.Tokens.{Lexeme, Word, Sign}
use Rattle.mt_tree.specs.declared.expression.Cond.{Cond}
use Rattle.mt_tree.specs.declared.expression.Expr.{Expr}
use Rattle.mt_tree.specs.declared.statement.SetItem.{SetItem}
use Rattle.mt_tree.specs.declared.statement.Stmt.{Stmt}
use Rattle.mt_tree.specs.declared.statement.Stmt.TheVariants as stmt
use Rattle.mt_tree.specs.declared.statement.Update.{Update}
use Rattle.mt_reader.specs.Descent.{after, name_of, separated_of}
use Rattle.mt_lexer.specs.Reserved.{is_reserved_name}
use Rattle.mt_reader.specs.Fronts.{Begins, AtEnd}
use Rattle.mt_reader.specs.Taken.{Keeps, Took}
use Rattle.mt_reader.proofs.Fronts.{keeps_map}
use Rattle.mt_reader.proofs.Shrinking.{bind_some, same_tree, same_rest}
use Rattle.mt_reader.proofs.Spelling.{IsSound, IsCompleteBefore, Shrinks, sound_shrinks, after_is, name_is, separated_sound, separated_complete_before}
use Rattle.mt_terms.specs.Condition.{SpellsCond}
use Rattle.mt_terms.specs.Descent.{expr_of}
use Rattle.mt_terms.specs.Follow.{expr_goes_on}
use Rattle.mt_terms.specs.Inside.{IsExprInside}
use Rattle.mt_terms.proofs.Expressions.{expr_sound}
use Rattle.mt_terms.proofs.Follow.{expr_follows}
use Rattle.mt_statements.specs.Change.{SpellsSet, SpellsUpdate, SpellsChange}
use Rattle.mt_statements.specs.ChangeDescent.{assigned, set_of, update_of, change_of}
use Rattle.mt_statements.specs.ChangeInside.{IsSetInside}
use Rattle.mt_statements.proofs.Filters.{where_of, where_sound, where_complete}
use Rattle.mt_statements.proofs.Starts.{StartsAmong, behind_limit, among_none, among_begins_none, among_maybe, at_end_among}

-- what is read is an assignment
pub set_sound : IsSound SpellsSet set_of
unfolding set_of
set_sound lexemes rest item e =
    let a = bind_some (name_of lexemes) _ (item, rest) e in
    let b = bind_some (after (Sign symbol.Equal) a.0.1) _ (item, rest) a.2 in
    let c = bind_some (expr_of b.0) _ (item, rest) b.2 in
    let n = name_is lexemes a.0.1 a.0.0 a.1 in
    let s = expr_sound b.0 c.0.1 c.0.0 c.1 in
    let front = Word a.0.0 ∷ Sign symbol.Equal ∷ s.front in
    record {
      front = front;
      whole = n.0 ∙ ap (λ ls. Word a.0.0 ∷ ls) (after_is _ a.0.1 b.0 b.1 ∙ ap (λ ls. Sign symbol.Equal ∷ ls) (s.whole ∙ ap (λ ls. s.front ++ ls) (same_rest c.2)));
      spelled = subst (SpellsSet front) (same_tree c.2) (record {
        front = Word a.0.0 ∷ [];
        back = Sign symbol.Equal ∷ s.front;
        split = refl;
        is_left = (refl, n.1);
        is_right = record { inner = s.front; prefix = refl; body = s.spelled };
      });
    }

-- how an assignment is spelled
set_is : (front : List Lexeme) (item : SetItem) (s : SpellsSet front item) → front ≡ Word item.column ∷ Sign symbol.Equal ∷ s.is_right.inner
set_is front item s = s.split ∙ ap (λ ls. ls ++ s.back) s.is_left.0 ∙ ap (λ ls. Word item.column ∷ ls) s.is_right.prefix

-- a column and its new value are read
set_read : (column : List ℕ) (value : Expr) (lexemes more : List Lexeme) → is_reserved_name column ≡ false → expr_of lexemes ≡ Some (value, more) → set_of (Word column ∷ Sign symbol.Equal ∷ lexemes) ≡ Some (record { column = column; expr = value }, more)
unfolding set_of name_of after
set_read column value lexemes more free read = rw (free, read) refl

-- the starts of what may stand behind the assignments, and behind each
abbrev behind_sets : List Lexeme
behind_sets = Word (codes "where") ∷ behind_limit

-- a comma too
abbrev behind_set : List Lexeme
behind_set = Sign symbol.Comma ∷ behind_sets

-- an assignment is read
set_complete : IsCompleteBefore SpellsSet (StartsAmong behind_set) set_of
set_complete front more item end s =
    ap (λ ls. set_of (ls ++ more)) (set_is front item s)
    ∙ set_read item.column item.expr (s.is_right.inner ++ more) more s.is_left.1 (expr_follows s.is_right.inner more item.expr (among_begins_none behind_set expr_goes_on more refl refl end) s.is_right.body)

-- an assignment has a lexeme at least
set_nonempty : (front : List Lexeme) (item : SetItem) → SpellsSet front item → 0 < length front
set_nonempty front item s = omega (arith, ap length (set_is front item s))

-- and so takes one
pub set_shrinks : Shrinks set_of
set_shrinks = sound_shrinks SpellsSet set_of set_sound set_nonempty

-- what is kept of an expression is kept of its assignment
keeps_assigned : (column : List ℕ) (kept : Option Expr) (value : Expr) → Keeps IsExprInside kept value → Keeps IsSetInside (option_map (assigned column) kept) (assigned column value)
keeps_assigned column = keeps_map IsExprInside IsSetInside (assigned column) (λ value h. h) (λ value h. h)

-- an expression is taken, and so an assignment
pub set_took : (column : List ℕ) (lexemes mid behind left : List Lexeme) (kept : Option Expr) → name_of lexemes ≡ Some (column, mid) → after (Sign symbol.Equal) mid ≡ Some behind → Took IsExprInside kept left (expr_of behind) → Took IsSetInside (option_map (assigned column) kept) left (set_of lexemes)
unfolding set_of
set_took column lexemes mid behind left kept named equal t = record {
  tree = assigned column t.tree;
  reads = rw (named, equal, t.reads) refl;
  keeps = keeps_assigned column kept t.tree t.keeps;
}

-- what is read behind UPDATE is spelled so
pub update_sound : (lexemes left rest : List Lexeme) (statement : Stmt) → lexemes ≡ Word (codes "update") ∷ left → update_of left ≡ Some (statement, rest) → Begins SpellsChange lexemes rest statement
unfolding update_of
update_sound lexemes left rest statement h e =
    let a = bind_some (name_of left) _ (statement, rest) e in
    let b = bind_some (after (Word (codes "set")) a.0.1) _ (statement, rest) a.2 in
    let c = bind_some (separated_of set_of (Sign symbol.Comma) b.0) _ (statement, rest) b.2 in
    let d = bind_some (where_of c.0.1) _ (statement, rest) c.2 in
    let n = name_is left a.0.1 a.0.0 a.1 in
    let s = separated_sound SpellsSet set_of (Sign symbol.Comma) set_sound b.0 c.0.1 c.0.0 c.1 in
    let w = where_sound c.0.1 d.0.1 d.0.0 d.1 in
    let front = Word (codes "update") ∷ Word a.0.0 ∷ Word (codes "set") ∷ (s.front ++ w.front) in
    let sets : b.0 ≡ (s.front ++ w.front) ++ rest = s.whole ∙ ap (λ ls. s.front ++ ls) (w.whole ∙ ap (λ ls. w.front ++ ls) (same_rest d.2)) ∙ sym (append_assoc s.front w.front rest) in
    record {
      front = front;
      whole = h ∙ ap (λ ls. Word (codes "update") ∷ ls) (n.0 ∙ ap (λ ls. Word a.0.0 ∷ ls) (after_is _ a.0.1 b.0 b.1 ∙ ap (λ ls. Word (codes "set") ∷ ls) sets));
      spelled = subst (SpellsChange front) (same_tree d.2) (record {
        table = Word a.0.0 ∷ [];
        sets = s.front;
        condition = w.front;
        spelling = refl;
        is_table = (refl, n.1);
        are_sets = s.spelled;
        is_condition = w.spelled;
      });
    }

-- a table, assignments and a condition are read
update_read : (table : List ℕ) (sets : List SetItem) (cond : Option Cond) (lexemes behind more : List Lexeme) → is_reserved_name table ≡ false → separated_of set_of (Sign symbol.Comma) lexemes ≡ Some (sets, behind) → where_of behind ≡ Some (cond, more) → change_of (Word (codes "update") ∷ Word table ∷ Word (codes "set") ∷ lexemes) ≡ Some (stmt.Update (record { table = table; sets = sets; cond = cond }), more)
unfolding change_of update_of name_of after
update_read table sets cond lexemes behind more free read found = rw (free, read, found) refl

-- an UPDATE is read
pub update_complete : (front more : List Lexeme) (update : Update) → AtEnd more → SpellsUpdate front update → change_of (front ++ more) ≡ Some (stmt.Update update, more)
update_complete front more update end s =
    let behind = s.condition ++ more in
    let all : front ++ more ≡ Word (codes "update") ∷ Word update.table ∷ Word (codes "set") ∷ (s.sets ++ behind) =
    ap (λ ls. ls ++ more) (s.spelling ∙ ap (λ ls. Word (codes "update") ∷ (ls ++ Word (codes "set") ∷ (s.sets ++ s.condition))) s.is_table.0)
    ∙ ap (λ ls. Word (codes "update") ∷ Word update.table ∷ Word (codes "set") ∷ ls) (append_assoc s.sets s.condition more) in
    let starts = among_maybe SpellsCond (Word (codes "where")) behind_limit s.condition more update.cond s.is_condition (at_end_among more end) in
    let sets = separated_complete_before SpellsSet set_of (Sign symbol.Comma) (StartsAmong behind_set) refl (λ rest. inl (rest, refl)) set_complete set_shrinks s.sets behind update.sets (inr starts) (among_none (Sign symbol.Comma) behind_sets behind refl starts) s.are_sets in
    ap change_of all ∙ update_read update.table update.sets update.cond (s.sets ++ behind) behind more s.is_table.1 sets (where_complete s.condition more update.cond end s.is_condition)
