-- A line says one thing, where a text reads as one statement and as one command at most; and each
-- text says something.
use Rattle.std.proofs.Common.{◌≡◌, ℕ, inl, inr, Result, Ok, Err, List, refl, ap, subst}
use Rattle.mt_tree.specs.declared.who.Who.{Who}
use Rattle.mt_tree.specs.declared.who.Who.TheVariants.{Admin, Tenant}
use Rattle.mt_script.specs.Lines as lines
use Rattle.mt_script.specs.Lines.{Line}
use Rattle.mt_reader.specs.declared.parse.ParseFault.{ParseFault}
use Rattle.mt_reader.specs.declared.parse.ParseFault.TheVariants as fault
use Rattle.mt_reader.specs.Forms.{Form}
use Rattle.mt_reader.specs.Reading.{ReadsAs, Gives}
use Rattle.mt_grammar.specs.Statement.{SpellsStmt, IsStmtInside}
use Rattle.mt_adminlang.specs.Command.{SpellsCommand}
use Rattle.mt_adminlang.specs.Inside.{IsCommandInside}
use Rattle.mt_schema.specs.Steps.{IsSchemaStep}
use Rattle.mt_model.specs.Served.{statement_tree}
use Rattle.mt_model.specs.Said.{Said, Unread, Outside, Unserved, Says, IsSaid, IsStatementSaid, IsCommandSaid}
use Rattle.mt_model.specs.Request.{Request, Overlong, Unreadable, Statement, Command, IsSent, IsRequest}
use Rattle.mt_script.specs.TagLaws.{HasTag-determined}
use Rattle.mt_model.proofs.ServedTrees.{IsInjective, IsServedOrNot, statement_tree-injective}

-- a text reads as one tree at most
abbrev pub IsDetermined : {T : Type 0} → Form T → Type 0
IsDetermined {T} form = (text : List ℕ) (a b : T) → ReadsAs form text a → ReadsAs form text b → a ≡ b

module _ {Tree T : Type 0} (form : Form Tree) (inside : Tree → Type 0) (tree_of : T → Tree) (served : T → Type 0) where
  -- then it says one thing, where different things have different trees
  said-determined : IsDetermined form → IsInjective tree_of → (text : List ℕ) (a b : Said T) → IsSaid form inside tree_of served text a → IsSaid form inside tree_of served text b → a ≡ b
  said-determined one apart text Unread Unread p q = refl
  said-determined one apart text Unread Outside p q = absurd (p q.0 q.1)
  said-determined one apart text Unread Unserved p q = absurd (p q.0 q.1)
  said-determined one apart text Unread (Says y) p q = absurd (p (tree_of y) q.0)
  said-determined one apart text Outside Unread p q = absurd (q p.0 p.1)
  said-determined one apart text Outside Outside p q = refl
  said-determined one apart text Outside Unserved p q = absurd (p.2 (subst inside (one text q.0 p.0 q.1 p.1) q.2))
  said-determined one apart text Outside (Says y) p q = absurd (p.2 (subst inside (one text (tree_of y) p.0 q.0 p.1) q.1))
  said-determined one apart text Unserved Unread p q = absurd (q p.0 p.1)
  said-determined one apart text Unserved Outside p q = absurd (q.2 (subst inside (one text p.0 q.0 p.1 q.1) p.2))
  said-determined one apart text Unserved Unserved p q = refl
  said-determined one apart text Unserved (Says y) p q = absurd (p.3 (y, one text p.0 (tree_of y) p.1 q.0, q.2))
  said-determined one apart text (Says x) Unread p q = absurd (q (tree_of x) p.0)
  said-determined one apart text (Says x) Outside p q = absurd (q.2 (subst inside (one text (tree_of x) q.0 p.0 q.1) p.1))
  said-determined one apart text (Says x) Unserved p q = absurd (q.3 (x, one text q.0 (tree_of x) q.1 p.0, p.2))
  said-determined one apart text (Says x) (Says y) p q = ap Says (apart x y (one text (tree_of x) (tree_of y) p.0 q.0))

  -- what a text says that gives a tree
  served-said : (text : List ℕ) (tree : Tree) → ReadsAs form text tree → inside tree → IsServedOrNot tree_of served tree → (said : Said T) × IsSaid form inside tree_of served text said
  served-said text tree reads is (inl s) = (Says s.0, (subst (λ (tree : Tree). ReadsAs form text tree) s.1 reads, subst inside s.1 is, s.2))
  served-said text tree reads is (inr none) = (Unserved, (tree, reads, is, none))

  -- what a text gives is what it says, where each tree is served or is not
  pub gives-said : ((tree : Tree) → IsServedOrNot tree_of served tree) → (text : List ℕ) (r : Result Tree ParseFault) → Gives form inside text r → (r ≡ Err fault.Memory → ⊥) → (said : Said T) × IsSaid form inside tree_of served text said
  gives-said decided text (Ok tree) g h = served-said text tree g.0 g.1 (decided tree)
  gives-said decided text (Err fault.Syntax) g h = (Unread, g)
  gives-said decided text (Err fault.Literal) g h = (Outside, g)
  gives-said decided text (Err fault.Memory) g h = absurd (h refl)

-- what a tenant's text says, and the administrator's
pub statement-said : IsDetermined SpellsStmt → (text : List ℕ) (a b : _) → IsStatementSaid text a → IsStatementSaid text b → a ≡ b
statement-said one = said-determined SpellsStmt IsStmtInside statement_tree (λ statement. Unit {0}) one statement_tree-injective

pub command-said : IsDetermined SpellsCommand → (text : List ℕ) (a b : _) → IsCommandSaid text a → IsCommandSaid text b → a ≡ b
command-said one = said-determined SpellsCommand IsCommandInside (λ command. command) IsSchemaStep one (λ a b same. same)

-- one line has one sender and one text
sender-determined : (bytes : List ℕ) (who other : Who) (says_it says_other : List ℕ → Type 0) → IsSent bytes who says_it → IsSent bytes other says_other → who ≡ other
sender-determined bytes who other says_it says_other p q = (HasTag-determined bytes who other p.text q.text p.tagged q.tagged).0

sent-determined : {T : Type 0} (says_it : List ℕ → Said T → Type 0) → ((text : List ℕ) (a b : Said T) → says_it text a → says_it text b → a ≡ b) → (bytes : List ℕ) (who other : Who) (a b : Said T) → IsSent bytes who (λ text. says_it text a) → IsSent bytes other (λ text. says_it text b) → a ≡ b
sent-determined says_it one bytes who other a b p q =
    let texts : p.text ≡ q.text = (HasTag-determined bytes who other p.text q.text p.tagged q.tagged).1 in
    one q.text a b (subst (λ (text : List ℕ). says_it text a) texts p.says) q.says

-- a line says one thing
pub IsRequest-determined : IsDetermined SpellsStmt → IsDetermined SpellsCommand → (line : Line) (a b : Request) → IsRequest line a → IsRequest line b → a ≡ b
IsRequest-determined statements commands lines.TooLong Overlong Overlong p q = refl
IsRequest-determined statements commands lines.TooLong Overlong Unreadable p q = absurd q
IsRequest-determined statements commands lines.TooLong Overlong (Statement n y) p q = absurd q
IsRequest-determined statements commands lines.TooLong Overlong (Command y) p q = absurd q
IsRequest-determined statements commands lines.TooLong a b p q = absurd p
IsRequest-determined statements commands (lines.Text bytes) Unreadable Unreadable p q = refl
IsRequest-determined statements commands (lines.Text bytes) Unreadable (Statement n y) p q = absurd (p (Tenant n) q.text q.tagged)
IsRequest-determined statements commands (lines.Text bytes) Unreadable (Command y) p q = absurd (p Admin q.text q.tagged)
IsRequest-determined statements commands (lines.Text bytes) (Statement m x) Unreadable p q = absurd (q (Tenant m) p.text p.tagged)
IsRequest-determined statements commands (lines.Text bytes) (Statement m x) (Statement n y) p q =
    let senders : Tenant m ≡ Tenant n = sender-determined bytes (Tenant m) (Tenant n) (λ text. IsStatementSaid text x) (λ text. IsStatementSaid text y) p q in
    let said : x ≡ y = sent-determined IsStatementSaid (statement-said statements) bytes (Tenant m) (Tenant n) x y p q in
    cc
IsRequest-determined statements commands (lines.Text bytes) (Statement m x) (Command y) p q =
    let senders : Tenant m ≡ Admin = sender-determined bytes (Tenant m) Admin (λ text. IsStatementSaid text x) (λ text. IsCommandSaid text y) p q in
    cc
IsRequest-determined statements commands (lines.Text bytes) (Command x) Unreadable p q = absurd (q Admin p.text p.tagged)
IsRequest-determined statements commands (lines.Text bytes) (Command x) (Statement n y) p q =
    let senders : Admin ≡ Tenant n = sender-determined bytes Admin (Tenant n) (λ text. IsCommandSaid text x) (λ text. IsStatementSaid text y) p q in
    cc
IsRequest-determined statements commands (lines.Text bytes) (Command x) (Command y) p q = ap Command (sent-determined IsCommandSaid (command-said commands) bytes Admin Admin x y p q)
IsRequest-determined statements commands (lines.Text bytes) Overlong b p q = absurd p
IsRequest-determined statements commands (lines.Text bytes) a Overlong p q = absurd q
