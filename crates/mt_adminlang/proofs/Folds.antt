-- Shapes, chunks and folds: what is read is spelled so, and what is spelled so is read.
use Rattle.std.proofs.Common.{◌≡◌, ℕ, zero, suc, Option, Some, None, List, [], ◌∷◌, ◌++◌, length, refl, sym, ap, ◌∙◌, subst, append_assoc, arith}
use Rattle.std.specs.Fmt.{digits}
use Rattle.std.specs.Prelude.{codes}
use Rattle.mt_lexer.specs.declared.token.Symbol.TheVariants as symbol
use Rattle.mt_lexer.specs.Tokens.{Lexeme, Word, Sign}
use Rattle.mt_tree.specs.declared.command.ChunkText.{ChunkText}
use Rattle.mt_tree.specs.declared.command.FoldText.{FoldText}
use Rattle.mt_reader.specs.Descent.{after, either, names_of}
use Rattle.mt_reader.specs.Forms.{Commas}
use Rattle.mt_reader.specs.Fronts.{Begins}
use Rattle.mt_reader.proofs.Fronts.{none_after}
use Rattle.mt_reader.proofs.Shrinking.{bind_some, same_tree, same_rest}
use Rattle.mt_reader.proofs.Spelling.{IsSound, IsComplete, IsCompleteBefore, Shrinks, after_is, after_same, separated_sound, separated_complete, sound_shrinks}
use Rattle.mt_adminlang.specs.Command.{IsShape, SpellsChunk, SpellsChunks, SpellsConv, SpellsFold}
use Rattle.mt_adminlang.specs.Descent.{shape_behind, shape_of, chunk_of, chunks_of, more_chunks_of, conv_of, chunks_alone_of, fold_of}
use Rattle.mt_adminlang.proofs.Definitions.{names_sound, names_complete}
use Rattle.mt_reader.proofs.Eithers.{either_some}

-- shapes

-- a word that is read as a shape
pub record ShapeRead (lexemes rest : List Lexeme) (shape : ℕ) : Type 0 where
  pub name : List ℕ
  pub stands : lexemes ≡ Word name ∷ rest
  pub is_shape : IsShape name shape

-- this word, or another
shape_step : (lexemes rest : List Lexeme) (shape : ℕ) (name : List ℕ) (n : ℕ) (other : Option (ℕ × List Lexeme)) → IsShape name n → (other ≡ Some (shape, rest) → ShapeRead lexemes rest shape) → shape_behind (after (Word name) lexemes) n other ≡ Some (shape, rest) → ShapeRead lexemes rest shape
shape_step lexemes rest shape name n other is more e = by_word (after (Word name) lexemes) refl e where
  by_word : (found : Option (List Lexeme)) → after (Word name) lexemes ≡ found → shape_behind found n other ≡ Some (shape, rest) → ShapeRead lexemes rest shape
  by_word None a e = more e
  by_word (Some left) a e = record {
    name = name;
    stands = after_is _ lexemes left a ∙ ap (λ ls. Word name ∷ ls) (same_rest e);
    is_shape = subst (IsShape name) (same_tree e) is;
  }

-- what is read as a shape is one
shape_sound : (lexemes rest : List Lexeme) (shape : ℕ) → shape_of lexemes ≡ Some (shape, rest) → ShapeRead lexemes rest shape
unfolding shape_of digits
shape_sound lexemes rest shape e =
    shape_step lexemes rest shape (codes "c1") 1 _ (omega arith, omega arith, refl)
    (shape_step lexemes rest shape (codes "c2") 2 _ (omega arith, omega arith, refl)
    (shape_step lexemes rest shape (codes "c3") 3 _ (omega arith, omega arith, refl)
    (shape_step lexemes rest shape (codes "c4") 4 _ (omega arith, omega arith, refl)
    (shape_step lexemes rest shape (codes "c5") 5 _ (omega arith, omega arith, refl)
    (shape_step lexemes rest shape (codes "c6") 6 _ (omega arith, omega arith, refl) (λ none. cc)))))) e

-- a shape is read
shape_complete : (name : List ℕ) (more : List Lexeme) (shape : ℕ) → IsShape name shape → shape_of (Word name ∷ more) ≡ Some (shape, more)
unfolding shape_of after digits
shape_complete name more zero s = absurd (omega (arith, s.0))
shape_complete name more (suc zero) s = rw s.2 refl
shape_complete name more (suc (suc zero)) s = rw s.2 refl
shape_complete name more (suc (suc (suc zero))) s = rw s.2 refl
shape_complete name more (suc (suc (suc (suc zero)))) s = rw s.2 refl
shape_complete name more (suc (suc (suc (suc (suc zero))))) s = rw s.2 refl
shape_complete name more (suc (suc (suc (suc (suc (suc zero)))))) s = rw s.2 refl
shape_complete name more (suc (suc (suc (suc (suc (suc (suc shape))))))) s = absurd (omega (arith, s.1))

-- CONV is no shape
conv_no_shape : (more : List Lexeme) → shape_of (Word (codes "conv") ∷ more) ≡ None
unfolding shape_of after
conv_no_shape more = refl

-- chunks

-- what is read as a chunk is one
chunk_sound : IsSound SpellsChunk chunk_of
unfolding chunk_of
chunk_sound lexemes rest chunk e =
    let a = bind_some (shape_of lexemes) _ (chunk, rest) e in
    let b = bind_some (names_of a.0.1) _ (chunk, rest) a.2 in
    let h = shape_sound lexemes a.0.1 a.0.0 a.1 in
    let n = names_sound a.0.1 b.0.1 b.0.0 b.1 in
    let front = Word h.name ∷ n.front in
    record {
      front = front;
      whole = h.stands ∙ ap (λ ls. Word h.name ∷ ls) (n.whole ∙ ap (λ ls. n.front ++ ls) (same_rest b.2));
      spelled = subst (SpellsChunk front) (same_tree b.2) (record { shape = h.name; columns = n.front; spelling = refl; is_shape = h.is_shape; are_columns = n.spelled });
    }

-- a chunk by its parts is read
chunk_read : (name : List ℕ) (back more : List Lexeme) (shape : ℕ) (columns : List (List ℕ)) → shape_of (Word name ∷ (back ++ more)) ≡ Some (shape, back ++ more) → names_of (back ++ more) ≡ Some (columns, more) → chunk_of (Word name ∷ (back ++ more)) ≡ Some (record { shape = shape; columns = columns }, more)
unfolding chunk_of
chunk_read name back more shape columns shapes names = rw (shapes, names) refl

-- a chunk is read
chunk_complete : IsComplete SpellsChunk chunk_of
chunk_complete front more chunk s =
    ap (λ ls. chunk_of (ls ++ more)) s.spelling
    ∙ chunk_read s.shape s.columns more chunk.shape chunk.columns (shape_complete s.shape (s.columns ++ more) chunk.shape s.is_shape) (names_complete s.columns more chunk.columns s.are_columns)

-- a chunk takes a lexeme at least
pub chunk_shrinks : Shrinks chunk_of
chunk_shrinks = sound_shrinks SpellsChunk chunk_of chunk_sound (λ front chunk s. omega (arith, ap length s.spelling))

-- a chunk does not begin with CONV
chunk_begins : (front more : List Lexeme) (chunk : ChunkText) → SpellsChunk front chunk → after (Word (codes "conv")) (front ++ more) ≡ None
chunk_begins front more chunk s = none_after (Word (codes "conv")) (front ++ more) (λ rest e.
    let taken : shape_of (front ++ more) ≡ Some (chunk.shape, s.columns ++ more) = ap (λ ls. shape_of (ls ++ more)) s.spelling ∙ shape_complete s.shape (s.columns ++ more) chunk.shape s.is_shape in
    let both : None ≡ Some (chunk.shape, s.columns ++ more) = sym (conv_no_shape rest) ∙ ap shape_of (sym e) ∙ taken in
    cc)

-- nor do chunks
chunks_begin : (front more : List Lexeme) (chunks : List ChunkText) → Commas SpellsChunk front chunks → after (Word (codes "conv")) (front ++ more) ≡ None
chunks_begin front more [] s = elim s [ ]
chunks_begin front more (x ∷ []) s = chunk_begins front more x s
chunks_begin front more (x ∷ y ∷ ys) s =
    ap (λ ls. after (Word (codes "conv")) (ls ++ more)) s.split
    ∙ ap (after (Word (codes "conv"))) (append_assoc s.front (Sign symbol.Comma ∷ s.back) more)
    ∙ chunk_begins s.front (Sign symbol.Comma ∷ (s.back ++ more)) x s.first

-- what is read as chunks is spelled so
chunks_sound : IsSound (Commas SpellsChunk) chunks_of
unfolding chunks_of
chunks_sound = separated_sound SpellsChunk chunk_of (Sign symbol.Comma) chunk_sound

-- no comma comes first
abbrev pub NoComma : List Lexeme → Type 0
NoComma tokens = after (Sign symbol.Comma) tokens ≡ None

-- chunks are read, where no comma follows
chunks_complete : IsCompleteBefore (Commas SpellsChunk) NoComma chunks_of
unfolding chunks_of
chunks_complete front more chunks end s = separated_complete SpellsChunk chunk_of (Sign symbol.Comma) refl chunk_complete chunk_shrinks front more chunks end s

-- chunks behind a comma are spelled so
more_spelled : (front : List Lexeme) (chunks : List ChunkText) → Commas SpellsChunk front chunks → SpellsChunks (Sign symbol.Comma ∷ front) chunks
more_spelled front [] s = elim s [ ]
more_spelled front (x ∷ xs) s = record { inner = front; prefix = refl; body = s }

-- what is read as chunks behind a comma is spelled so
more_chunks_sound : IsSound SpellsChunks more_chunks_of
unfolding more_chunks_of
more_chunks_sound lexemes rest chunks e =
    either_some (after (Sign symbol.Comma) lexemes) chunks_of (Some ([], lexemes)) (chunks, rest)
    (λ left a e.
    let s = chunks_sound left rest chunks e in
    record {
      front = Sign symbol.Comma ∷ s.front;
      whole = after_is _ lexemes left a ∙ ap (λ ls. Sign symbol.Comma ∷ ls) s.whole;
      spelled = more_spelled s.front chunks s.spelled;
    })
    (λ e. record { front = []; whole = same_rest e; spelled = subst (SpellsChunks []) (same_tree e) refl }) e

-- chunks behind a comma are read, where no other follows
more_chunks_complete : IsCompleteBefore SpellsChunks NoComma more_chunks_of
unfolding more_chunks_of
more_chunks_complete front more [] end s =
    ap (λ ls. either (after (Sign symbol.Comma) (ls ++ more)) chunks_of (Some ([], ls ++ more))) s ∙ ap (λ found. either found chunks_of (Some ([], more))) end
more_chunks_complete front more (x ∷ xs) end s =
    let left = s.inner ++ more in
    ap (λ ls. either (after (Sign symbol.Comma) (ls ++ more)) chunks_of (Some ([], ls ++ more))) s.prefix
    ∙ ap (λ found. either found chunks_of (Some ([], Sign symbol.Comma ∷ left))) (after_same (Sign symbol.Comma) left refl)
    ∙ chunks_complete s.inner more (x ∷ xs) end s.body

-- folds

-- a fold as it is written
abbrev pub SpellsFoldText : List Lexeme → FoldText → Type 0
SpellsFoldText tokens fold = SpellsFold tokens fold.conv fold.chunks

-- CONV has a name at least
conv_spelled : (front back : List Lexeme) (conv : List (List ℕ)) (chunks : List ChunkText) → SpellsConv front conv → SpellsChunks back chunks → SpellsFold (front ++ back) conv chunks
conv_spelled front back [] chunks s t = elim s.body.body [ ]
conv_spelled front back (name ∷ names) chunks s t = record { front = front; back = back; split = refl; is_left = s; is_right = t }

-- what is read behind CONV is a fold
conv_sound : (lexemes left rest : List Lexeme) (fold : FoldText) → lexemes ≡ Word (codes "conv") ∷ left → conv_of left ≡ Some (fold, rest) → Begins SpellsFoldText lexemes rest fold
unfolding conv_of
conv_sound lexemes left rest fold h e =
    let a = bind_some (names_of left) _ (fold, rest) e in
    let b = bind_some (more_chunks_of a.0.1) _ (fold, rest) a.2 in
    let n = names_sound left a.0.1 a.0.0 a.1 in
    let m = more_chunks_sound a.0.1 b.0.1 b.0.0 b.1 in
    let conv = Word (codes "conv") ∷ n.front in
    record {
      front = conv ++ m.front;
      whole = h ∙ ap (λ ls. Word (codes "conv") ∷ ls) (n.whole ∙ ap (λ ls. n.front ++ ls) (m.whole ∙ ap (λ ls. m.front ++ ls) (same_rest b.2))) ∙ sym (append_assoc conv m.front rest);
      spelled = subst (SpellsFoldText (conv ++ m.front)) (same_tree b.2) (conv_spelled conv m.front a.0.0 b.0.0 (record { inner = n.front; prefix = refl; body = n.spelled }) m.spelled);
    }

-- what is read as a fold is one
pub fold_sound : IsSound SpellsFoldText fold_of
unfolding fold_of
fold_sound lexemes rest fold e =
    either_some (after (Word (codes "conv")) lexemes) conv_of (chunks_alone_of lexemes) (fold, rest)
    (λ left a e. conv_sound lexemes left rest fold (after_is _ lexemes left a) e)
    (λ e.
    let p = bind_some (chunks_of lexemes) _ (fold, rest) e in
    let s = chunks_sound lexemes p.0.1 p.0.0 p.1 in
    record {
      front = s.front;
      whole = s.whole ∙ ap (λ ls. s.front ++ ls) (same_rest p.2);
      spelled = subst (SpellsFoldText s.front) (same_tree p.2) s.spelled;
    }) e

-- a fold behind CONV by its parts is read
conv_read : (names back more : List Lexeme) (conv : List (List ℕ)) (chunks : List ChunkText) → names_of (names ++ (back ++ more)) ≡ Some (conv, back ++ more) → more_chunks_of (back ++ more) ≡ Some (chunks, more) → fold_of (Word (codes "conv") ∷ (names ++ (back ++ more))) ≡ Some (record { conv = conv; chunks = chunks }, more)
unfolding fold_of conv_of after
conv_read names back more conv chunks named listed = rw (named, listed) refl

-- a fold of chunks alone is read
alone_read : (lexemes more : List Lexeme) (chunks : List ChunkText) → after (Word (codes "conv")) lexemes ≡ None → chunks_of lexemes ≡ Some (chunks, more) → fold_of lexemes ≡ Some (record { conv = []; chunks = chunks }, more)
unfolding fold_of
alone_read lexemes more chunks none listed = rw (none, listed) refl

-- a fold is read, where no comma follows
pub fold_complete : (front more : List Lexeme) (conv : List (List ℕ)) (chunks : List ChunkText) → NoComma more → SpellsFold front conv chunks → fold_of (front ++ more) ≡ Some (record { conv = conv; chunks = chunks }, more)
fold_complete front more [] chunks end s = alone_read (front ++ more) more chunks (chunks_begin front more chunks s) (chunks_complete front more chunks end s)
fold_complete front more (name ∷ names) chunks end s =
    let c = s.is_left in
    let rest = s.back ++ more in
    ap (λ ls. fold_of (ls ++ more)) s.split
    ∙ ap fold_of (append_assoc s.front s.back more)
    ∙ ap (λ ls. fold_of (ls ++ rest)) c.prefix
    ∙ conv_read c.inner s.back more (name ∷ names) chunks (names_complete c.inner rest (name ∷ names) c.body) (more_chunks_complete s.back more chunks end s.is_right)
