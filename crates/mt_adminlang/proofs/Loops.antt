-- The columns of a table, as far as a loop has read.
use Rattle.std.proofs.Common.{◌≡◌, ℕ, zero, suc, ◌≤◌, Option, Some, None, List, [], ◌∷◌, ◌++◌, length, refl, sym, ap, ◌∙◌, append_assoc, arith}
use Rattle.std.proofs.lemmas.List.Elements.{All-nil}
use Rattle.std.specs.List.{All}
use Rattle.std.specs.Option.{option_map}
use Rattle.mt_lexer.specs.Tokens.{Lexeme}
use Rattle.mt_tree.specs.declared.command.Def.{Def}
use Rattle.mt_reader.specs.Descent.{pushed}
use Rattle.mt_reader.specs.Taken.{Keeps, Took}
use Rattle.mt_reader.proofs.Lists.{keeps_pushed}
use Rattle.mt_adminlang.specs.declared.create.TableBody.{TableBody}
use Rattle.mt_adminlang.specs.Body.{IsBodyInside}
use Rattle.mt_adminlang.specs.Descent.{next_of, def_of, with_columns, columns_of, body_of}
use Rattle.mt_adminlang.specs.Inside.{IsDefInside}
use Rattle.mt_adminlang.proofs.Bodies.{next_comma, columns_of-column}
use Rattle.mt_adminlang.proofs.Definitions.{def_shrinks}

-- more columns in front
with_columns-append : (front middle : List Def) (read : Option (TableBody × List Lexeme)) → with_columns front (with_columns middle read) ≡ with_columns (front ++ middle) read
with_columns-append front middle None = refl
with_columns-append front middle (Some more) = ap (λ columns. Some (record { columns = columns; key = more.0.key }, more.1)) (sym (append_assoc front middle more.0.columns))

-- no columns in front
with_columns-nil : (read : Option (TableBody × List Lexeme)) → with_columns [] read ≡ read
with_columns-nil None = refl
with_columns-nil (Some more) = refl

-- The columns so far, and those that are left, are all; and this is kept of those so far.
pub record ColumnsSoFar (all : Option (TableBody × List Lexeme)) (left : List Lexeme) (columns : Option (List Def)) : Type 0 where
  pub front : List Def
  pub fuel : ℕ
  pub enough : length left ≤ fuel
  pub same : with_columns front (columns_of fuel left) ≡ all
  pub keeps : Keeps (All IsDefInside) columns front

-- before the first column
pub columns_none : (lexemes : List Lexeme) → ColumnsSoFar (body_of lexemes) lexemes (Some [])
unfolding body_of
columns_none lexemes = record {
  front = [];
  fuel = length lexemes;
  enough = omega arith;
  same = with_columns-nil (columns_of (length lexemes) lexemes);
  keeps = (refl, All-nil IsDefInside);
}

-- the columns with a key
abbrev pub keyed : List (List ℕ) → List Def → TableBody
keyed key columns = record { columns = columns; key = key }

-- what is kept of columns is kept with a key
keeps_keyed : (key : List (List ℕ)) (kept : Option (List Def)) (columns : List Def) → Keeps (All IsDefInside) kept columns → Keeps IsBodyInside (option_map (keyed key) kept) (keyed key columns)
keeps_keyed key None columns k = k
keeps_keyed key (Some kept) columns k = (ap (keyed key) k.0, k.1)

module _ (all : Option (TableBody × List Lexeme)) (left : List Lexeme) (columns : Option (List Def)) (s : ColumnsSoFar all left columns) where
  module _ (mid : List Lexeme) (kept : Option Def) (x : Def) (d : def_of left ≡ Some (x, mid)) (k : Keeps IsDefInside kept x) where
    -- the key, and so all columns
    pub columns_key : (rest : List Lexeme) (key : List (List ℕ)) → next_of mid ≡ Some (Some key, rest) → Took IsBodyInside (option_map (keyed key) (pushed columns kept)) rest all
    columns_key rest key n = step s.fuel s.enough s.same where
      step : (fuel : ℕ) → length left ≤ fuel → with_columns s.front (columns_of fuel left) ≡ all → Took IsBodyInside (option_map (keyed key) (pushed columns kept)) rest all
      step zero enough same = absurd (omega (arith, def_shrinks left mid x d))
      step (suc fuel) enough same = record {
        tree = keyed key (s.front ++ x ∷ []);
        reads = sym same ∙ ap (with_columns s.front) (columns_of-column fuel left mid rest x (Some key) d n);
        keeps = keeps_keyed key (pushed columns kept) (s.front ++ x ∷ []) (keeps_pushed IsDefInside columns kept s.front x s.keeps k);
      }

    -- a comma, and so more columns
    pub columns_more : (rest : List Lexeme) → next_of mid ≡ Some (None, rest) → ColumnsSoFar all rest (pushed columns kept)
    columns_more rest n = step s.fuel s.enough s.same where
      step : (fuel : ℕ) → length left ≤ fuel → with_columns s.front (columns_of fuel left) ≡ all → ColumnsSoFar all rest (pushed columns kept)
      step zero enough same = absurd (omega (arith, def_shrinks left mid x d))
      step (suc fuel) enough same = record {
        front = s.front ++ x ∷ [];
        fuel = fuel;
        enough = omega (arith, def_shrinks left mid x d, ap length (next_comma mid rest n));
        same = sym (with_columns-append s.front (x ∷ []) (columns_of fuel rest)) ∙ ap (with_columns s.front) (sym (columns_of-column fuel left mid rest x None d n)) ∙ same;
        keeps = keeps_pushed IsDefInside columns kept s.front x s.keeps k;
      }
