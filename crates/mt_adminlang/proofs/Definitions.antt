-- Names in brackets, kinds and columns: what is read is spelled so, and what is spelled so is read.
use Rattle.std.proofs.Common.{◌≡◌, ℕ, ◌<◌, Bool, true, false, Option, Some, None, List, [], ◌∷◌, ◌++◌, length, refl, sym, ap, ◌∙◌, subst, append_assoc, length-append, arith}
use Rattle.std.specs.Prelude.{codes}
use Rattle.mt_lexer.specs.declared.token.Symbol.TheVariants as symbol
use Rattle.mt_lexer.specs.Tokens.{Lexeme, Word, Number, Sign}
use Rattle.mt_tree.specs.declared.command.Def.{Def}
use Rattle.mt_tree.specs.declared.command.DefKind.{DefKind}
use Rattle.mt_tree.specs.declared.command.DefKind.TheVariants.{Integer, Varchar}
use Rattle.mt_reader.specs.Descent.{after, name_of, number_of, names_of}
use Rattle.mt_lexer.specs.Reserved.{is_reserved_name}
use Rattle.mt_reader.specs.Forms.{Flag}
use Rattle.mt_reader.specs.Fronts.{Begins}
use Rattle.mt_reader.specs.Names.{IsName, SpellsNames}
use Rattle.mt_reader.proofs.Bracketing.{items_in_brackets_sound, items_in_brackets_complete}
use Rattle.mt_reader.proofs.Fronts.{none_after}
use Rattle.mt_reader.proofs.Parts.{name_sound, name_complete}
use Rattle.mt_reader.proofs.Shrinking.{bind_some, same_tree, same_rest, name_shrinks}
use Rattle.mt_reader.proofs.Spelling.{IsSound, IsComplete, IsCompleteBefore, Shrinks, after_is, name_is, number_is, sound_shrinks}
use Rattle.mt_adminlang.specs.Command.{SpellsKind, SpellsDef, SpellsExtensionDef, not_null}
use Rattle.mt_adminlang.specs.Descent.{varchar_of, kind_of, kind_behind, not_null_of, not_null_behind, def_of, extension_def_of}

-- names in brackets

-- what is read as names in brackets is spelled so
pub names_sound : IsSound SpellsNames names_of
names_sound = items_in_brackets_sound IsName name_of name_sound

-- names in brackets are read
pub names_complete : IsComplete SpellsNames names_of
names_complete = items_in_brackets_complete IsName name_of (λ _. Unit {0}) (λ _. tt) (λ _. tt) (λ front more tree _ s. name_complete front more tree s) name_shrinks

-- kinds

-- what is read behind VARCHAR is its size
varchar_sound : (lexemes left rest : List Lexeme) (k : DefKind) → lexemes ≡ Word (codes "varchar") ∷ left → varchar_of left ≡ Some (k, rest) → Begins SpellsKind lexemes rest k
unfolding varchar_of
varchar_sound lexemes left rest k h e =
    let a = bind_some (after (Sign symbol.Open) left) _ (k, rest) e in
    let b = bind_some (number_of a.0) _ (k, rest) a.2 in
    let c = bind_some (after (Sign symbol.Close) b.0.1) _ (k, rest) b.2 in
    let front = Word (codes "varchar") ∷ Sign symbol.Open ∷ Number b.0.0 ∷ Sign symbol.Close ∷ [] in
    record {
      front = front;
      whole =
          let last : c.0 ≡ rest = same_rest c.2 in
          cc (after_is _ left a.0 a.1, number_is a.0 b.0.1 b.0.0 b.1, after_is _ b.0.1 c.0 c.1);
      spelled = subst (SpellsKind front) (same_tree c.2) refl;
    }

-- what is read as a kind is one
kind_sound : IsSound SpellsKind kind_of
unfolding kind_of
kind_sound lexemes rest k e = by_word (after (Word (codes "integer")) lexemes) refl e where
  by_word : (integer : Option (List Lexeme)) → after (Word (codes "integer")) lexemes ≡ integer → kind_behind integer lexemes ≡ Some (k, rest) → Begins SpellsKind lexemes rest k
  by_word (Some left) a e = record {
    front = Word (codes "integer") ∷ [];
    whole = after_is _ lexemes left a ∙ ap (λ ls. Word (codes "integer") ∷ ls) (same_rest e);
    spelled = subst (SpellsKind (Word (codes "integer") ∷ [])) (same_tree e) refl;
  }
  by_word None a e =
      let p = bind_some (after (Word (codes "varchar")) lexemes) varchar_of (k, rest) e in
      varchar_sound lexemes p.0 rest k (after_is _ lexemes p.0 p.1) p.2

-- a kind is read
kind_complete : IsComplete SpellsKind kind_of
unfolding kind_of varchar_of after number_of
kind_complete front more Integer s = rw s refl
kind_complete front more (Varchar size) s = rw s refl

-- NOT NULL

-- what is read as NOT NULL, or as nothing, is that
not_null_sound : IsSound (Flag not_null) not_null_of
unfolding not_null_of
not_null_sound lexemes rest flag e = by_word (after (Word (codes "not")) lexemes) refl e where
  by_word : (found : Option (List Lexeme)) → after (Word (codes "not")) lexemes ≡ found → not_null_behind found lexemes ≡ Some (flag, rest) → Begins (Flag not_null) lexemes rest flag
  by_word None a e = record { front = []; whole = same_rest e; spelled = subst (Flag not_null []) (same_tree e) refl }
  by_word (Some left) a e =
      let p = bind_some (after (Word (codes "null")) left) _ (flag, rest) e in
      record {
        front = not_null;
        whole = after_is _ lexemes left a ∙ ap (λ ls. Word (codes "not") ∷ ls) (after_is _ left p.0 p.1 ∙ ap (λ ls. Word (codes "null") ∷ ls) (same_rest p.2));
        spelled = subst (Flag not_null not_null) (same_tree p.2) refl;
      }

-- no NOT comes first
abbrev pub NoNot : List Lexeme → Type 0
NoNot tokens = after (Word (codes "not")) tokens ≡ None

-- NOT NULL is read, or nothing where no NOT follows
not_null_complete : IsCompleteBefore (Flag not_null) NoNot not_null_of
unfolding not_null_of after
not_null_complete front more true end s = rw s refl
not_null_complete front more false end s =
    ap (λ ls. not_null_behind (after (Word (codes "not")) (ls ++ more)) (ls ++ more)) s ∙ ap (λ found. not_null_behind found more) end

-- columns of tables

-- what is read as a column is one
pub def_sound : IsSound SpellsDef def_of
unfolding def_of
def_sound lexemes rest def e =
    let a = bind_some (name_of lexemes) _ (def, rest) e in
    let b = bind_some (kind_of a.0.1) _ (def, rest) a.2 in
    let c = bind_some (not_null_of b.0.1) _ (def, rest) b.2 in
    let n = name_is lexemes a.0.1 a.0.0 a.1 in
    let k = kind_sound a.0.1 b.0.1 b.0.0 b.1 in
    let f = not_null_sound b.0.1 c.0.1 c.0.0 c.1 in
    let back = k.front ++ f.front in
    record {
      front = Word a.0.0 ∷ back;
      whole = n.0 ∙ ap (λ ls. Word a.0.0 ∷ ls) (k.whole ∙ ap (λ ls. k.front ++ ls) (f.whole ∙ ap (λ ls. f.front ++ ls) (same_rest c.2)) ∙ sym (append_assoc k.front f.front rest));
      spelled = subst (SpellsDef (Word a.0.0 ∷ back)) (same_tree c.2) (record {
        front = Word a.0.0 ∷ [];
        back = back;
        split = refl;
        is_left = (refl, n.1);
        is_right = record { front = k.front; back = f.front; split = refl; is_left = k.spelled; is_right = f.spelled };
      });
    }

-- a column by its parts is read
def_read : (name : List ℕ) (kind : DefKind) (flag : Bool) (front back more : List Lexeme) → is_reserved_name name ≡ false → kind_of (front ++ (back ++ more)) ≡ Some (kind, back ++ more) → not_null_of (back ++ more) ≡ Some (flag, more) → def_of (Word name ∷ (front ++ (back ++ more))) ≡ Some (record { name = name; kind = kind; not_null = flag }, more)
unfolding def_of name_of
def_read name kind flag front back more free kinds flags = rw (free, kinds, flags) refl

-- a column begins with its name
def_begin : (front more : List Lexeme) (def : Def) → (s : SpellsDef front def) → front ++ more ≡ Word def.name ∷ (s.back ++ more)
def_begin front more def s = ap (λ ls. ls ++ more) (s.split ∙ ap (λ name. name ++ s.back) s.is_left.0)

-- a column is read, where no NOT follows
pub def_complete : IsCompleteBefore SpellsDef NoNot def_of
def_complete front more def end s =
    let r = s.is_right in
    ap def_of (def_begin front more def s ∙ ap (λ ls. Word def.name ∷ ls) (ap (λ ls. ls ++ more) r.split ∙ append_assoc r.front r.back more))
    ∙ def_read def.name def.kind def.not_null r.front r.back more s.is_left.1 (kind_complete r.front (r.back ++ more) def.kind r.is_left) (not_null_complete r.back more def.not_null end r.is_right)

-- a column has a lexeme at least
pub def_nonempty : (front : List Lexeme) (def : Def) → SpellsDef front def → 0 < length front
def_nonempty front def s = omega (arith, ap length s.split, ap length s.is_left.0, length-append s.front s.back)

-- and takes one
pub def_shrinks : Shrinks def_of
def_shrinks = sound_shrinks SpellsDef def_of def_sound def_nonempty

-- a column begins with no reserved word
pub def_begins : (word : List ℕ) → is_reserved_name word ≡ true → (front more : List Lexeme) (def : Def) → SpellsDef front def → after (Word word) (front ++ more) ≡ None
def_begins word reserved front more def s = none_after (Word word) (front ++ more) (λ rest e.
    let both : Word def.name ∷ (s.back ++ more) ≡ Word word ∷ rest = sym (def_begin front more def s) ∙ e in
    let same : def.name ≡ word = cc in
    let contrary : false ≡ true = sym s.is_left.1 ∙ ap is_reserved_name same ∙ reserved in
    cc)

-- columns of extensions

-- what is read as a column of an extension is one
pub extension_def_sound : IsSound SpellsExtensionDef extension_def_of
unfolding extension_def_of
extension_def_sound lexemes rest def e =
    let a = bind_some (name_of lexemes) _ (def, rest) e in
    let b = bind_some (kind_of a.0.1) _ (def, rest) a.2 in
    let n = name_is lexemes a.0.1 a.0.0 a.1 in
    let k = kind_sound a.0.1 b.0.1 b.0.0 b.1 in
    let front = Word a.0.0 ∷ k.front in
    record {
      front = front;
      whole = n.0 ∙ ap (λ ls. Word a.0.0 ∷ ls) (k.whole ∙ ap (λ ls. k.front ++ ls) (same_rest b.2));
      spelled = subst (SpellsExtensionDef front) (same_tree b.2) (record { front = Word a.0.0 ∷ []; back = k.front; split = refl; is_left = (refl, n.1); is_right = k.spelled }, refl);
    }

-- a column of an extension by its parts is read
extension_def_read : (name : List ℕ) (kind : DefKind) (back more : List Lexeme) → is_reserved_name name ≡ false → kind_of (back ++ more) ≡ Some (kind, more) → extension_def_of (Word name ∷ (back ++ more)) ≡ Some (record { name = name; kind = kind; not_null = false }, more)
unfolding extension_def_of name_of
extension_def_read name kind back more free kinds = rw (free, kinds) refl

-- a column of an extension is read
pub extension_def_complete : IsComplete SpellsExtensionDef extension_def_of
extension_def_complete front more def s =
    let p = s.0 in
    ap (λ ls. extension_def_of (ls ++ more)) (p.split ∙ ap (λ name. name ++ p.back) p.is_left.0)
    ∙ extension_def_read def.name def.kind p.back more p.is_left.1 (kind_complete p.back more def.kind p.is_right)
    ∙ ap (λ flag. Some (record { name = def.name; kind = def.kind; not_null = flag }, more)) (sym s.1)

-- a column of an extension has a lexeme at least
extension_def_nonempty : (front : List Lexeme) (def : Def) → SpellsExtensionDef front def → 0 < length front
extension_def_nonempty front def s = omega (arith, ap length s.0.split, ap length s.0.is_left.0, length-append s.0.front s.0.back)

-- and takes one
pub extension_def_shrinks : Shrinks extension_def_of
extension_def_shrinks = sound_shrinks SpellsExtensionDef extension_def_of extension_def_sound extension_def_nonempty
