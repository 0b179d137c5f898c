-- The columns and the key of a table: what is read is spelled so, and what is spelled so is read.
use Rattle.std.proofs.Common.{◌≡◌, ℕ, zero, suc, ◌≤◌, true, Option, Some, None, List, [], ◌∷◌, ◌++◌, length, refl, sym, ap, ◌∙◌, subst, append_assoc, length-append, arith}
use Rattle.std.specs.Prelude.{codes}
use Rattle.mt_lexer.specs.declared.token.Symbol.TheVariants as symbol
use Rattle.mt_lexer.specs.Tokens.{Lexeme, Word, Sign}
use Rattle.mt_tree.specs.declared.command.Def.{Def}
use Rattle.mt_reader.specs.Descent.{after, names_of}
use Rattle.mt_lexer.specs.Reserved.{is_reserved_name}
use Rattle.mt_reader.specs.Forms.{Commas, MaybeList, Parts}
use Rattle.mt_reader.specs.Fronts.{Begins}
use Rattle.mt_lexer.specs.Reserved.{reserved}
use Rattle.mt_reader.proofs.Shrinking.{bind_some, same_tree, same_rest}
use Rattle.mt_reader.proofs.Spelling.{IsSound, after_is, after_same}
use Rattle.mt_adminlang.specs.declared.create.TableBody.{TableBody}
use Rattle.mt_adminlang.specs.Command.{SpellsDef, SpellsPrimaryKey}
use Rattle.mt_adminlang.specs.Descent.{primary_behind, next_behind, next_of, def_of, with_columns, body_behind, columns_of, body_of}
use Rattle.mt_adminlang.proofs.Definitions.{NoNot, names_sound, names_complete, def_sound, def_complete, def_nonempty, def_begins}

-- the key, or nothing
abbrev SpellsKey : List Lexeme → List (List ℕ) → Type 0
SpellsKey tokens key = MaybeList SpellsPrimaryKey tokens key

-- def {',' def} [',' PRIMARY KEY '(' names ')']
abbrev pub SpellsBody : List Lexeme → TableBody → Type 0
SpellsBody tokens body = Parts (λ front. Commas SpellsDef front body.columns) (λ back. SpellsKey back body.key) tokens

-- a key has a name at least
key_spelled : (tokens : List Lexeme) (key : List (List ℕ)) → SpellsPrimaryKey tokens key → SpellsKey tokens key
key_spelled tokens [] s = elim s.body.body [ ]
key_spelled tokens (name ∷ names) s = s

module _ (lexemes rest : List Lexeme) where
  -- where another column is to come, a comma is taken
  pub next_comma : next_of lexemes ≡ Some (None, rest) → lexemes ≡ Sign symbol.Comma ∷ rest
  unfolding next_of
  next_comma e = by_comma (after (Sign symbol.Comma) lexemes) refl e where
    by_primary : (left : List Lexeme) → after (Sign symbol.Comma) lexemes ≡ Some left → (found : Option (List Lexeme)) → primary_behind found left ≡ Some (None, rest) → lexemes ≡ Sign symbol.Comma ∷ rest
    by_primary left a None e = after_is _ lexemes left a ∙ ap (λ ls. Sign symbol.Comma ∷ ls) (same_rest e)
    by_primary left a (Some primary) e =
        let p = bind_some (after (Word (codes "key")) primary) _ (None, rest) e in
        let q = bind_some (names_of p.0) _ (None, rest) p.2 in
        let contrary : Some q.0.0 ≡ None = same_tree q.2 in
        cc

    by_comma : (found : Option (List Lexeme)) → after (Sign symbol.Comma) lexemes ≡ found → next_behind found lexemes ≡ Some (None, rest) → lexemes ≡ Sign symbol.Comma ∷ rest
    by_comma None a e = let contrary : Some [] ≡ None = same_tree e in cc
    by_comma (Some left) a e = by_primary left a (after (Word (codes "primary")) left) e

  -- where the body ends, the key is spelled
  next_key : (key : List (List ℕ)) → next_of lexemes ≡ Some (Some key, rest) → Begins SpellsKey lexemes rest key
  unfolding next_of
  next_key key e = by_comma (after (Sign symbol.Comma) lexemes) refl e where
    by_primary : (left : List Lexeme) → lexemes ≡ Sign symbol.Comma ∷ left → (found : Option (List Lexeme)) → after (Word (codes "primary")) left ≡ found → primary_behind found left ≡ Some (Some key, rest) → Begins SpellsKey lexemes rest key
    by_primary left h None a e = let contrary : None ≡ Some key = same_tree e in cc
    by_primary left h (Some primary) a e =
        let p = bind_some (after (Word (codes "key")) primary) _ (Some key, rest) e in
        let q = bind_some (names_of p.0) _ (Some key, rest) p.2 in
        let same : q.0.0 ≡ key = let both : Some q.0.0 ≡ Some key = same_tree q.2 in cc in
        let n = names_sound p.0 q.0.1 q.0.0 q.1 in
        let front = Sign symbol.Comma ∷ Word (codes "primary") ∷ Word (codes "key") ∷ n.front in
        record {
          front = front;
          whole =
              let last : q.0.1 ≡ rest = same_rest q.2 in
              cc (h, after_is _ left primary a, after_is _ primary p.0 p.1, n.whole);
          spelled = key_spelled front key (subst (SpellsPrimaryKey front) same (record { inner = n.front; prefix = refl; body = n.spelled }));
        }

    by_comma : (found : Option (List Lexeme)) → after (Sign symbol.Comma) lexemes ≡ found → next_behind found lexemes ≡ Some (Some key, rest) → Begins SpellsKey lexemes rest key
    by_comma None a e =
        let same : [] ≡ key = let both : Some [] ≡ Some key = same_tree e in cc in
        record { front = []; whole = same_rest e; spelled = subst (SpellsKey []) same refl }
    by_comma (Some left) a e = by_primary left (after_is _ lexemes left a) (after (Word (codes "primary")) left) refl e

-- a key is read
key_read : (inner more : List Lexeme) (key : List (List ℕ)) → names_of (inner ++ more) ≡ Some (key, more) → next_of (Sign symbol.Comma ∷ Word (codes "primary") ∷ Word (codes "key") ∷ (inner ++ more)) ≡ Some (Some key, more)
unfolding next_of after
key_read inner more key read = rw read refl

-- a key, or none, is read in front of a bracket that closes
next_complete : (front more : List Lexeme) (key : List (List ℕ)) → SpellsKey front key → next_of (front ++ Sign symbol.Close ∷ more) ≡ Some (Some key, Sign symbol.Close ∷ more)
unfolding next_of after
next_complete front more [] s = rw s refl
next_complete front more (name ∷ names) s =
    ap (λ ls. next_of (ls ++ Sign symbol.Close ∷ more)) s.prefix
    ∙ key_read s.inner (Sign symbol.Close ∷ more) (name ∷ names) (names_complete s.inner (Sign symbol.Close ∷ more) (name ∷ names) s.body)

-- a comma that no PRIMARY follows is taken
next_more : (rest : List Lexeme) → after (Word (codes "primary")) rest ≡ None → next_of (Sign symbol.Comma ∷ rest) ≡ Some (None, rest)
unfolding next_of
next_more rest none = ap (λ found. next_behind found (Sign symbol.Comma ∷ rest)) (after_same (Sign symbol.Comma) rest refl) ∙ ap (λ found. primary_behind found rest) none

-- no NOT comes where a key or a bracket that closes does
key_ends : (front more : List Lexeme) (key : List (List ℕ)) → SpellsKey front key → NoNot (front ++ Sign symbol.Close ∷ more)
unfolding after
key_ends front more [] s = rw s refl
key_ends front more (name ∷ names) s = rw s.prefix refl

-- nor where a comma does
comma_ends : (rest : List Lexeme) → NoNot (Sign symbol.Comma ∷ rest)
unfolding after
comma_ends rest = refl

-- one step

-- a column and what follows it
pub columns_of-column : (fuel : ℕ) (left mid rest : List Lexeme) (x : Def) (next : Option (List (List ℕ))) → def_of left ≡ Some (x, mid) → next_of mid ≡ Some (next, rest) → columns_of (suc fuel) left ≡ with_columns (x ∷ []) (body_behind (columns_of fuel) next rest)
columns_of-column fuel left mid rest x next d n = rw (d, n) refl

-- a column in front of a body
more_spelled : (front back : List Lexeme) (x : Def) (body : TableBody) → SpellsDef front x → SpellsBody back body → SpellsBody (front ++ Sign symbol.Comma ∷ back) (record { columns = x ∷ body.columns; key = body.key })
more_spelled front back x body first s = record {
  front = front ++ Sign symbol.Comma ∷ s.front;
  back = s.back;
  split = ap (λ ls. front ++ Sign symbol.Comma ∷ ls) s.split ∙ sym (append_assoc front (Sign symbol.Comma ∷ s.front) s.back);
  is_left = joined body.columns s.is_left;
  is_right = s.is_right;
} where
  joined : (columns : List Def) → Commas SpellsDef s.front columns → Commas SpellsDef (front ++ Sign symbol.Comma ∷ s.front) (x ∷ columns)
  joined [] others = elim others [ ]
  joined (y ∷ ys) others = record { front = front; back = s.front; split = refl; first = first; others = others }

-- what is read is spelled so

-- as far as the fuel goes
columns_sound : (fuel : ℕ) (lexemes rest : List Lexeme) (body : TableBody) → columns_of fuel lexemes ≡ Some (body, rest) → Begins SpellsBody lexemes rest body
columns_sound zero lexemes rest body e = cc
columns_sound (suc fuel) lexemes rest body e =
    let p = bind_some (def_of lexemes) _ (body, rest) e in
    let q = bind_some (next_of p.0.1) _ (body, rest) p.2 in
    behind (def_sound lexemes p.0.1 p.0.0 p.1) q.0.0 q.0.1 q.1 q.2 (λ left. columns_sound fuel left) where
      behind : {mid : List Lexeme} {x : Def} → Begins SpellsDef lexemes mid x → (next : Option (List (List ℕ))) (left : List Lexeme) → next_of mid ≡ Some (next, left) → with_columns (x ∷ []) (body_behind (columns_of fuel) next left) ≡ Some (body, rest) → ((left rest : List Lexeme) (more : TableBody) → columns_of fuel left ≡ Some (more, rest) → Begins SpellsBody left rest more) → Begins SpellsBody lexemes rest body
      behind {mid} {x} first (Some key) left n e more =
          let k = next_key mid left key n in
          record {
            front = first.front ++ k.front;
            whole = first.whole ∙ ap (λ ls. first.front ++ ls) (k.whole ∙ ap (λ ls. k.front ++ ls) (same_rest e)) ∙ sym (append_assoc first.front k.front rest);
            spelled = subst (SpellsBody (first.front ++ k.front)) (same_tree e) (record { front = first.front; back = k.front; split = refl; is_left = first.spelled; is_right = k.spelled });
          }
      behind {mid} {x} first None left n e more =
          let p = bind_some (columns_of fuel left) _ (body, rest) e in
          let others = more left p.0.1 p.0.0 p.1 in
          let front = first.front ++ Sign symbol.Comma ∷ others.front in
          record {
            front = front;
            whole =
                first.whole
                ∙ ap (λ ls. first.front ++ ls) (next_comma mid left n ∙ ap (λ ls. Sign symbol.Comma ∷ ls) (others.whole ∙ ap (λ ls. others.front ++ ls) (same_rest p.2)))
                ∙ sym (append_assoc first.front (Sign symbol.Comma ∷ others.front) rest);
            spelled = subst (SpellsBody front) (same_tree p.2) (more_spelled first.front others.front x p.0.0 first.spelled others.spelled);
          }

-- what is read as a body is one
pub body_sound : IsSound SpellsBody body_of
unfolding body_of
body_sound lexemes rest body e = columns_sound (length lexemes) lexemes rest body e

-- what is spelled so is read

-- columns begin with no reserved word
defs_begin : (word : List ℕ) → is_reserved_name word ≡ true → (front more : List Lexeme) (columns : List Def) → Commas SpellsDef front columns → after (Word word) (front ++ more) ≡ None
defs_begin word free front more [] s = elim s [ ]
defs_begin word free front more (x ∷ []) s = def_begins word free front more x s
defs_begin word free front more (x ∷ y ∷ ys) s =
    ap (λ ls. after (Word word) (ls ++ more)) s.split
    ∙ ap (after (Word word)) (append_assoc s.front (Sign symbol.Comma ∷ s.back) more)
    ∙ def_begins word free s.front (Sign symbol.Comma ∷ (s.back ++ more)) x s.first

-- PRIMARY is reserved
primary_reserved : is_reserved_name (codes "primary") ≡ true
unfolding reserved
primary_reserved = refl

-- with fuel for each column
columns_complete : (fuel : ℕ) (front back more : List Lexeme) (columns : List Def) (key : List (List ℕ)) → length front ≤ fuel → Commas SpellsDef front columns → SpellsKey back key → columns_of fuel (front ++ (back ++ Sign symbol.Close ∷ more)) ≡ Some (record { columns = columns; key = key }, Sign symbol.Close ∷ more)
columns_complete fuel front back more [] key h s k = elim s [ ]
columns_complete zero front back more (x ∷ []) key h s k = absurd (omega (arith, def_nonempty front x s))
columns_complete zero front back more (x ∷ y ∷ ys) key h s k = absurd (omega (arith, ap length s.split, length-append s.front (Sign symbol.Comma ∷ s.back)))
columns_complete (suc fuel) front back more (x ∷ []) key h s k =
    let rest = back ++ Sign symbol.Close ∷ more in
    columns_of-column fuel (front ++ rest) rest (Sign symbol.Close ∷ more) x (Some key) (def_complete front rest x (key_ends back more key k) s) (next_complete back more key k)
columns_complete (suc fuel) front back more (x ∷ y ∷ ys) key h s k =
    let rest = back ++ Sign symbol.Close ∷ more in
    let left = s.back ++ rest in
    let all : front ++ rest ≡ s.front ++ Sign symbol.Comma ∷ left = ap (λ ls. ls ++ rest) s.split ∙ append_assoc s.front (Sign symbol.Comma ∷ s.back) rest in
    let first : def_of (front ++ rest) ≡ Some (x, Sign symbol.Comma ∷ left) = ap def_of all ∙ def_complete s.front (Sign symbol.Comma ∷ left) x (comma_ends left) s.first in
    let short : length s.back ≤ fuel = omega (arith, ap length s.split, length-append s.front (Sign symbol.Comma ∷ s.back)) in
    columns_of-column fuel (front ++ rest) (Sign symbol.Comma ∷ left) left x None first (next_more left (defs_begin (codes "primary") primary_reserved s.back rest (y ∷ ys) s.others))
    ∙ ap (with_columns (x ∷ [])) (columns_complete fuel s.back back more (y ∷ ys) key short s.others k)

-- a body is read in front of a bracket that closes
pub body_complete : (front back more : List Lexeme) (columns : List Def) (key : List (List ℕ)) → Commas SpellsDef front columns → MaybeList SpellsPrimaryKey back key → body_of (front ++ (back ++ Sign symbol.Close ∷ more)) ≡ Some (record { columns = columns; key = key }, Sign symbol.Close ∷ more)
unfolding body_of
body_complete front back more columns key s k =
    let rest = back ++ Sign symbol.Close ∷ more in
    columns_complete (length (front ++ rest)) front back more columns key (omega (arith, length-append front rest)) s k
