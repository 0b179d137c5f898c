-- Commands, on examples.
use Rattle.std.proofs.Common.{[], ◌∷◌, refl, arith}
use Rattle.std.specs.Fmt.{digits}
use Rattle.std.specs.Prelude.{codes}
use Rattle.mt_lexer.specs.Reserved.{reserved}
use Rattle.mt_lexer.specs.declared.token.Symbol.TheVariants as symbol
use Rattle.mt_lexer.specs.Tokens.{Word, Number, Sign}
use Rattle.mt_tree.specs.declared.command.AdminCmd.TheVariants.{CreateTenant, Refold}
use Rattle.mt_adminlang.specs.Command.{SpellsCommand}

-- CREATE TENANT 1 QUOTA 2
tenant-example : SpellsCommand (Word (codes "create") ∷ Word (codes "tenant") ∷ Number 1 ∷ Word (codes "quota") ∷ Number 2 ∷ []) (CreateTenant 1 2)
tenant-example = refl

-- REFOLD 1 t TO C4 (a)
refold-example : SpellsCommand
    (Word (codes "refold") ∷ Number 1 ∷ Word (codes "t") ∷ Word (codes "to") ∷ Word (codes "c4") ∷ Sign symbol.Open ∷ Word (codes "a") ∷ Sign symbol.Close ∷ [])
    (Refold 1 (codes "t") (record { conv = []; chunks = record { shape = 4; columns = codes "a" ∷ [] } ∷ [] }))
unfolding reserved digits
refold-example = record {
  name = Word (codes "t") ∷ [];
  chunks = Word (codes "c4") ∷ Sign symbol.Open ∷ Word (codes "a") ∷ Sign symbol.Close ∷ [];
  spelling = refl;
  is_name = (refl, refl);
  is_fold = record {
    shape = codes "c4";
    columns = Sign symbol.Open ∷ Word (codes "a") ∷ Sign symbol.Close ∷ [];
    spelling = refl;
    is_shape = (omega arith, omega arith, refl);
    are_columns = record { inner = Word (codes "a") ∷ []; brackets = refl; body = (refl, refl) };
  };
}
