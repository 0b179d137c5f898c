-- What a call leaves that does a front of its work.
use Rattle.std.proofs.Common.{◌≡◌, ℕ, ◌≤◌, List, [], ◌++◌, take, drop, refl, sym, ap, ◌∙◌, arith, append_assoc, append-nil}
use Rattle.std.proofs.lemmas.List.{take-append-drop}
use Rattle.mt_machine.specs.declared.machine.Area.{Area}
use Rattle.mt_machine.specs.Meaning.{Disk}
use Rattle.mt_machine.specs.Calls.{Torn, PutsOutFront}
use Rattle.mt_machine.specs.Run.{TornOne}

-- what is torn in a range is torn in a longer one
pub torn_wider : (area : Area) (at m n : ℕ) (old new : Disk) → m ≤ n → Torn area at m old new → Torn area at n old new
torn_wider area at m n old new wider torn =
    record { before = torn.before; after = λ k past. torn.after k (omega arith); other = torn.other }

pub one_torn_wider : (area : Area) (at m n : ℕ) (images : Disk → Type 0) (image : Disk) → m ≤ n → TornOne area at m images image → TornOne area at n images image
one_torn_wider area at m n images image wider torn = (torn.0, torn.1, torn_wider area at m n torn.0 image wider torn.2)

-- the output with the first bytes behind it
pub puts_out_first : (bytes old new : List ℕ) (n : ℕ) → new ≡ old ++ take n bytes → PutsOutFront bytes old new
puts_out_first bytes old new n is = record {
  front = take n bytes;
  rest = drop n bytes;
  split = sym (take-append-drop n bytes);
  output = is;
}

-- all bytes are a front of them
pub puts_out_all : (bytes old new : List ℕ) → new ≡ old ++ bytes → PutsOutFront bytes old new
puts_out_all bytes old new is = record { front = bytes; rest = []; split = sym (append-nil bytes); output = is }

-- nothing is a front of all bytes
pub puts_out_none : (bytes old : List ℕ) → PutsOutFront bytes old old
puts_out_none bytes old = record { front = []; rest = bytes; split = refl; output = sym (append-nil old) }

-- a front of the first bytes is a front of all
pub puts_out_less : (bytes old new : List ℕ) (n : ℕ) → PutsOutFront (take n bytes) old new → PutsOutFront bytes old new
puts_out_less bytes old new n out = record {
  front = out.front;
  rest = out.rest ++ drop n bytes;
  split = sym (take-append-drop n bytes) ∙ ap (λ front. front ++ drop n bytes) out.split ∙ append_assoc out.front out.rest (drop n bytes);
  output = out.output;
}
