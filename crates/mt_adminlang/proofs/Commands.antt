-- The commands but EXPLAIN: what is read is spelled so.
use Rattle.std.proofs.Common.{◌≡◌, List, [], ◌∷◌, ◌++◌, Some, refl, sym, ap, ◌∙◌, subst, append_assoc}
use Rattle.std.specs.Prelude.{codes}
use Rattle.mt_lexer.specs.declared.token.Symbol.TheVariants as symbol
use Rattle.mt_lexer.specs.Tokens.{Lexeme, Word, Number, Sign}
use Rattle.mt_tree.specs.declared.command.AdminCmd.{AdminCmd}
use Rattle.mt_reader.specs.Descent.{after, name_of, number_of, separated_of, bracketed_of}
use Rattle.mt_reader.proofs.Bracketing.{items_in_brackets_sound}
use Rattle.mt_reader.specs.Fronts.{Begins}
use Rattle.mt_reader.proofs.Shrinking.{bind_some, same_tree, same_rest}
use Rattle.mt_reader.proofs.Spelling.{IsSound, after_is, name_is, number_is}
use Rattle.mt_adminlang.specs.Command.{SpellsExtensionDef}
use Rattle.mt_adminlang.specs.Descent.{extension_def_of, body_of, create_table_of, extension_of, tenant_of, create_of, fold_of, extend_of, set_quota_of, advise_of, show_fold_of, refold_of, step_of, plain_command_of}
use Rattle.mt_adminlang.specs.Plain.{SpellsPlainCommand}
use Rattle.mt_adminlang.proofs.Bodies.{body_sound}
use Rattle.mt_adminlang.proofs.Definitions.{extension_def_sound}
use Rattle.mt_reader.proofs.Eithers.{either_some}
use Rattle.mt_adminlang.proofs.Folds.{fold_sound}

module _ (lexemes left rest : List Lexeme) (command : AdminCmd) where
  -- creations

  -- what is read behind CREATE TABLE is spelled so
  table_sound : lexemes ≡ Word (codes "create") ∷ Word (codes "table") ∷ left → create_table_of left ≡ Some (command, rest) → Begins SpellsPlainCommand lexemes rest command
  unfolding create_table_of
  table_sound h e =
      let a = bind_some (name_of left) _ (command, rest) e in
      let b = bind_some (after (Sign symbol.Open) a.0.1) _ (command, rest) a.2 in
      let c = bind_some (body_of b.0) _ (command, rest) b.2 in
      let d = bind_some (after (Sign symbol.Close) c.0.1) _ (command, rest) c.2 in
      let n = name_is left a.0.1 a.0.0 a.1 in
      let v = body_sound b.0 c.0.1 c.0.0 c.1 in
      let p = v.spelled in
      let close = Sign symbol.Close ∷ [] in
      let defs = p.front ++ p.back in
      let inner = defs ++ close in
      let front = Word (codes "create") ∷ Word (codes "table") ∷ Word a.0.0 ∷ Sign symbol.Open ∷ inner in
      let closed : c.0.1 ≡ Sign symbol.Close ∷ rest = after_is _ c.0.1 d.0 d.1 ∙ ap (λ ls. Sign symbol.Close ∷ ls) (same_rest d.2) in
      let opened : b.0 ≡ inner ++ rest = v.whole ∙ ap (λ ls. ls ++ c.0.1) p.split ∙ ap (λ ls. defs ++ ls) closed ∙ sym (append_assoc defs close rest) in
      record {
        front = front;
        whole = h ∙ ap (λ ls. Word (codes "create") ∷ Word (codes "table") ∷ ls) (n.0 ∙ ap (λ ls. Word a.0.0 ∷ ls) (after_is _ a.0.1 b.0 b.1 ∙ ap (λ ls. Sign symbol.Open ∷ ls) opened));
        spelled = subst (SpellsPlainCommand front) (same_tree d.2) (record {
          table = Word a.0.0 ∷ [];
          defs = p.front;
          primary = p.back;
          spelling = refl;
          is_table = (refl, n.1);
          are_defs = p.is_left;
          is_primary = p.is_right;
        });
      }

  -- what is read behind CREATE EXTENSION is spelled so
  extension_sound : lexemes ≡ Word (codes "create") ∷ Word (codes "extension") ∷ left → extension_of left ≡ Some (command, rest) → Begins SpellsPlainCommand lexemes rest command
  unfolding extension_of
  extension_sound h e =
      let a = bind_some (name_of left) _ (command, rest) e in
      let b = bind_some (after (Word (codes "on")) a.0.1) _ (command, rest) a.2 in
      let c = bind_some (name_of b.0) _ (command, rest) b.2 in
      let d = bind_some (bracketed_of (separated_of extension_def_of (Sign symbol.Comma)) c.0.1) _ (command, rest) c.2 in
      let n = name_is left a.0.1 a.0.0 a.1 in
      let t = name_is b.0 c.0.1 c.0.0 c.1 in
      let v = items_in_brackets_sound SpellsExtensionDef extension_def_of extension_def_sound c.0.1 d.0.1 d.0.0 d.1 in
      let front = Word (codes "create") ∷ Word (codes "extension") ∷ Word a.0.0 ∷ Word (codes "on") ∷ Word c.0.0 ∷ v.front in
      let defs : c.0.1 ≡ v.front ++ rest = v.whole ∙ ap (λ ls. v.front ++ ls) (same_rest d.2) in
      record {
        front = front;
        whole = cc (h, n.0, after_is _ a.0.1 b.0 b.1, t.0, defs);
        spelled = subst (SpellsPlainCommand front) (same_tree d.2) (record {
          extension = Word a.0.0 ∷ [];
          table = Word c.0.0 ∷ [];
          defs = v.front;
          spelling = refl;
          is_extension = (refl, n.1);
          is_table = (refl, t.1);
          are_defs = v.spelled;
        });
      }

  -- what is read behind CREATE TENANT is spelled so
  tenant_sound : lexemes ≡ Word (codes "create") ∷ Word (codes "tenant") ∷ left → tenant_of left ≡ Some (command, rest) → Begins SpellsPlainCommand lexemes rest command
  unfolding tenant_of
  tenant_sound h e =
      let a = bind_some (number_of left) _ (command, rest) e in
      let b = bind_some (after (Word (codes "quota")) a.0.1) _ (command, rest) a.2 in
      let c = bind_some (number_of b.0) _ (command, rest) b.2 in
      let front = Word (codes "create") ∷ Word (codes "tenant") ∷ Number a.0.0 ∷ Word (codes "quota") ∷ Number c.0.0 ∷ [] in
      record {
        front = front;
        whole =
            let last : c.0.1 ≡ rest = same_rest c.2 in
            cc (h, number_is left a.0.1 a.0.0 a.1, after_is _ a.0.1 b.0 b.1, number_is b.0 c.0.1 c.0.0 c.1);
        spelled = subst (SpellsPlainCommand front) (same_tree c.2) refl;
      }

  -- other commands

  -- what is read behind EXTEND is spelled so
  extend_sound : lexemes ≡ Word (codes "extend") ∷ left → extend_of left ≡ Some (command, rest) → Begins SpellsPlainCommand lexemes rest command
  unfolding extend_of
  extend_sound h e =
      let a = bind_some (number_of left) _ (command, rest) e in
      let b = bind_some (after (Word (codes "with")) a.0.1) _ (command, rest) a.2 in
      let c = bind_some (name_of b.0) _ (command, rest) b.2 in
      let n = name_is b.0 c.0.1 c.0.0 c.1 in
      let front = Word (codes "extend") ∷ Number a.0.0 ∷ Word (codes "with") ∷ Word c.0.0 ∷ [] in
      record {
        front = front;
        whole =
            let last : c.0.1 ≡ rest = same_rest c.2 in
            cc (h, number_is left a.0.1 a.0.0 a.1, after_is _ a.0.1 b.0 b.1, n.0);
        spelled = subst (SpellsPlainCommand front) (same_tree c.2) (record { inner = Word c.0.0 ∷ []; prefix = refl; body = (refl, n.1) });
      }

  -- what is read behind SET is spelled so
  set_quota_sound : lexemes ≡ Word (codes "set") ∷ left → set_quota_of left ≡ Some (command, rest) → Begins SpellsPlainCommand lexemes rest command
  unfolding set_quota_of
  set_quota_sound h e =
      let q = bind_some (after (Word (codes "quota")) left) _ (command, rest) e in
      let a = bind_some (number_of q.0) _ (command, rest) q.2 in
      let b = bind_some (after (Word (codes "to")) a.0.1) _ (command, rest) a.2 in
      let c = bind_some (number_of b.0) _ (command, rest) b.2 in
      let front = Word (codes "set") ∷ Word (codes "quota") ∷ Number a.0.0 ∷ Word (codes "to") ∷ Number c.0.0 ∷ [] in
      record {
        front = front;
        whole =
            let last : c.0.1 ≡ rest = same_rest c.2 in
            cc (h, after_is _ left q.0 q.1, number_is q.0 a.0.1 a.0.0 a.1, after_is _ a.0.1 b.0 b.1, number_is b.0 c.0.1 c.0.0 c.1);
        spelled = subst (SpellsPlainCommand front) (same_tree c.2) refl;
      }

  -- what is read behind ADVISE is spelled so
  advise_sound : lexemes ≡ Word (codes "advise") ∷ left → advise_of left ≡ Some (command, rest) → Begins SpellsPlainCommand lexemes rest command
  unfolding advise_of
  advise_sound h e =
      let a = bind_some (number_of left) _ (command, rest) e in
      let b = bind_some (name_of a.0.1) _ (command, rest) a.2 in
      let n = name_is a.0.1 b.0.1 b.0.0 b.1 in
      let front = Word (codes "advise") ∷ Number a.0.0 ∷ Word b.0.0 ∷ [] in
      record {
        front = front;
        whole = let last : b.0.1 ≡ rest = same_rest b.2 in cc (h, number_is left a.0.1 a.0.0 a.1, n.0);
        spelled = subst (SpellsPlainCommand front) (same_tree b.2) (record { inner = Word b.0.0 ∷ []; prefix = refl; body = (refl, n.1) });
      }

  -- what is read behind SHOW is spelled so
  show_fold_sound : lexemes ≡ Word (codes "show") ∷ left → show_fold_of left ≡ Some (command, rest) → Begins SpellsPlainCommand lexemes rest command
  unfolding show_fold_of
  show_fold_sound h e =
      let q = bind_some (after (Word (codes "fold")) left) _ (command, rest) e in
      let a = bind_some (number_of q.0) _ (command, rest) q.2 in
      let b = bind_some (name_of a.0.1) _ (command, rest) a.2 in
      let n = name_is a.0.1 b.0.1 b.0.0 b.1 in
      let front = Word (codes "show") ∷ Word (codes "fold") ∷ Number a.0.0 ∷ Word b.0.0 ∷ [] in
      record {
        front = front;
        whole = let last : b.0.1 ≡ rest = same_rest b.2 in cc (h, after_is _ left q.0 q.1, number_is q.0 a.0.1 a.0.0 a.1, n.0);
        spelled = subst (SpellsPlainCommand front) (same_tree b.2) (record { inner = Word b.0.0 ∷ []; prefix = refl; body = (refl, n.1) });
      }

  -- what is read behind REFOLD is spelled so
  refold_sound : lexemes ≡ Word (codes "refold") ∷ left → refold_of left ≡ Some (command, rest) → Begins SpellsPlainCommand lexemes rest command
  unfolding refold_of
  refold_sound h e =
      let a = bind_some (number_of left) _ (command, rest) e in
      let b = bind_some (name_of a.0.1) _ (command, rest) a.2 in
      let c = bind_some (after (Word (codes "to")) b.0.1) _ (command, rest) b.2 in
      let d = bind_some (fold_of c.0) _ (command, rest) c.2 in
      let n = name_is a.0.1 b.0.1 b.0.0 b.1 in
      let f = fold_sound c.0 d.0.1 d.0.0 d.1 in
      let front = Word (codes "refold") ∷ Number a.0.0 ∷ Word b.0.0 ∷ Word (codes "to") ∷ f.front in
      let folded : c.0 ≡ f.front ++ rest = f.whole ∙ ap (λ ls. f.front ++ ls) (same_rest d.2) in
      record {
        front = front;
        whole = cc (h, number_is left a.0.1 a.0.0 a.1, n.0, after_is _ b.0.1 c.0 c.1, folded);
        spelled = subst (SpellsPlainCommand front) (same_tree d.2) (record { name = Word b.0.0 ∷ []; chunks = f.front; spelling = refl; is_name = (refl, n.1); is_fold = f.spelled });
      }

  -- what is read behind STEP is spelled so
  step_sound : lexemes ≡ Word (codes "step") ∷ left → step_of left ≡ Some (command, rest) → Begins SpellsPlainCommand lexemes rest command
  unfolding step_of
  step_sound h e =
      let a = bind_some (number_of left) _ (command, rest) e in
      let b = bind_some (name_of a.0.1) _ (command, rest) a.2 in
      let c = bind_some (number_of b.0.1) _ (command, rest) b.2 in
      let n = name_is a.0.1 b.0.1 b.0.0 b.1 in
      let front = Word (codes "step") ∷ Number a.0.0 ∷ Word b.0.0 ∷ Number c.0.0 ∷ [] in
      record {
        front = front;
        whole =
            let last : c.0.1 ≡ rest = same_rest c.2 in
            cc (h, number_is left a.0.1 a.0.0 a.1, n.0, number_is b.0.1 c.0.1 c.0.0 c.1);
        spelled = subst (SpellsPlainCommand front) (same_tree c.2) (record { name = Word b.0.0 ∷ []; spelling = refl; is_name = (refl, n.1) });
      }

-- what is read behind CREATE is spelled so
create_sound : (lexemes left rest : List Lexeme) (command : AdminCmd) → lexemes ≡ Word (codes "create") ∷ left → create_of left ≡ Some (command, rest) → Begins SpellsPlainCommand lexemes rest command
unfolding create_of
create_sound lexemes left rest command h e =
    either_some (after (Word (codes "table")) left) create_table_of _ (command, rest) (λ mid a e. table_sound lexemes mid rest command (behind mid a) e)
    (λ e. either_some (after (Word (codes "extension")) left) extension_of _ (command, rest) (λ mid a e. extension_sound lexemes mid rest command (behind mid a) e)
    (λ e. let p = bind_some (after (Word (codes "tenant")) left) tenant_of (command, rest) e in tenant_sound lexemes p.0 rest command (behind p.0 p.1) p.2) e) e where
      behind : {word : Lexeme} → (mid : List Lexeme) → after word left ≡ Some mid → lexemes ≡ Word (codes "create") ∷ word ∷ mid
      behind {word} mid a = h ∙ ap (λ ls. Word (codes "create") ∷ ls) (after_is word left mid a)

-- what is read as a command but EXPLAIN is one
pub plain_command_sound : IsSound SpellsPlainCommand plain_command_of
unfolding plain_command_of
plain_command_sound lexemes rest command e =
    either_some (after (Word (codes "create")) lexemes) create_of _ (command, rest) (λ left a e. create_sound lexemes left rest command (after_is _ lexemes left a) e)
    (λ e. either_some (after (Word (codes "extend")) lexemes) extend_of _ (command, rest) (λ left a e. extend_sound lexemes left rest command (after_is _ lexemes left a) e)
    (λ e. either_some (after (Word (codes "set")) lexemes) set_quota_of _ (command, rest) (λ left a e. set_quota_sound lexemes left rest command (after_is _ lexemes left a) e)
    (λ e. either_some (after (Word (codes "advise")) lexemes) advise_of _ (command, rest) (λ left a e. advise_sound lexemes left rest command (after_is _ lexemes left a) e)
    (λ e. either_some (after (Word (codes "show")) lexemes) show_fold_of _ (command, rest) (λ left a e. show_fold_sound lexemes left rest command (after_is _ lexemes left a) e)
    (λ e. either_some (after (Word (codes "refold")) lexemes) refold_of _ (command, rest) (λ left a e. refold_sound lexemes left rest command (after_is _ lexemes left a) e)
    (λ e. let p = bind_some (after (Word (codes "step")) lexemes) step_of (command, rest) e in step_sound lexemes p.0 rest command (after_is _ lexemes p.0 p.1) p.2) e) e) e) e) e) e
