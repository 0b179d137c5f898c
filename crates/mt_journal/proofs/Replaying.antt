-- What stood in the place of a range before it is written does not matter.
use Rattle.std.proofs.Common.{◌≡◌, ◌⊎◌, ℕ, ◌+◌, ◌-◌, ◌<◌, ◌≤◌, Bool, true, false, ◌&&◌, List, [], ◌∷◌, ◌++◌, length, slice_index, refl, sym, ap, ◌∙◌, subst, arith, inl, inr, ⊎_elim, append_assoc}
use Rattle.std.proofs.lemmas.List.{append-nil}
use Rattle.std.specs.Prelude.{nat_le, nat_lt, if◌then◌else◌}
use Rattle.std.proofs.lemmas.Bool.{cases_lt, le-leb, lt-leb, lt-ltb, le-ltb}
use Rattle.mt_machine.specs.declared.machine.Area.TheVariants.{Log, Pages}
use Rattle.mt_machine.specs.Meaning.{Disk}
use Rattle.mt_machine.specs.Calls.{Torn}
use Rattle.mt_journal.specs.Layout.{Area, Range}
use Rattle.mt_journal.specs.Chain.{IsChain}
use Rattle.mt_journal.specs.Replay.{with_range, with_ranges, all_ranges, Replays}
use Rattle.mt_journal.specs.Steps.{Among, SameReplay}
use Rattle.mt_journal.proofs.Chains.{chain_unique}

-- a place lies in a range
abbrev pub Covers : Range → ℕ → Type 0
Covers range k = (range.position ≤ k) × (k < range.position + length range.bytes)

-- a place lies in a range or not
covers_cases : (range : Range) (k : ℕ) → Covers range k ⊎ ((k < range.position) ⊎ (range.position + length range.bytes ≤ k))
covers_cases range k = ⊎_elim (λ below. inr (inl below))
    (λ from. ⊎_elim (λ inside. inl (from, inside)) (λ behind. inr (inr behind)) (cases_lt k (range.position + length range.bytes)))
    (cases_lt k range.position)

-- the bytes of a range stand in its place
pub with_range_inside : (range : Range) (pages : Area) (k : ℕ) → Covers range k → with_range range pages k ≡ slice_index range.bytes (k - range.position)
with_range_inside range pages k inside =
    let from = le-leb range.position k inside.0 in
    let below = lt-ltb k (range.position + length range.bytes) inside.1 in
    rw (from, below) refl

-- the other bytes are as they were
pub with_range_outside : (range : Range) (pages : Area) (k : ℕ) → (k < range.position) ⊎ (range.position + length range.bytes ≤ k) → with_range range pages k ≡ pages k
with_range_outside range pages k (inl below) = let from = lt-leb range.position k below in rw from refl
with_range_outside range pages k (inr behind) = let last = le-ltb k (range.position + length range.bytes) behind in elim (nat_le range.position k) as (λ (b : Bool). (if b && nat_lt k (range.position + length range.bytes) then slice_index range.bytes (k - range.position) else pages k) ≡ pages k) [
  | true ↦ rw last refl
  | false ↦ refl
]

-- what comes to stand at a place depends on that place alone
pub with_ranges_at : (ranges : List Range) (one two : Area) (k : ℕ) → one k ≡ two k → with_ranges ranges one k ≡ with_ranges ranges two k
with_ranges_at [] one two k same = same
with_ranges_at (range ∷ ranges) one two k same =
    with_ranges_at ranges (with_range range one) (with_range range two) k
    (ap (λ (b : ℕ). if nat_le range.position k && nat_lt k (range.position + length range.bytes) then slice_index range.bytes (k - range.position) else b) same)

-- and not on it where one of the ranges covers it
pub with_ranges_covered : (ranges : List Range) (range : Range) (one two : Area) (k : ℕ) → Among range ranges → Covers range k → with_ranges ranges one k ≡ with_ranges ranges two k
with_ranges_covered [] range one two k among inside = absurd among
with_ranges_covered (first ∷ ranges) range one two k (inl here) inside =
    let covers : Covers first k = subst (λ (r : Range). Covers r k) here inside in
    with_ranges_at ranges (with_range first one) (with_range first two) k (with_range_inside first one k covers ∙ sym (with_range_inside first two k covers))
with_ranges_covered (first ∷ ranges) range one two k (inr later) inside = with_ranges_covered ranges range (with_range first one) (with_range first two) k later inside

-- pages that are the same but for a part of a range come to be the same
pub with_ranges_torn : (ranges : List Range) (range : Range) (one two : Area) (at n : ℕ) → Among range ranges → range.position ≤ at → at + n ≤ range.position + length range.bytes
    → ((k : ℕ) → k < at → two k ≡ one k) → ((k : ℕ) → at + n ≤ k → two k ≡ one k) → with_ranges ranges two ≡ with_ranges ranges one
with_ranges_torn ranges range one two at n among low high before after =
    let each : (k : ℕ) → with_ranges ranges two k ≡ with_ranges ranges one k = λ k.
    ⊎_elim (λ below. with_ranges_at ranges two one k (before k below))
    (λ from. ⊎_elim (λ inside. with_ranges_covered ranges range two one k among (omega arith, omega arith)) (λ behind. with_ranges_at ranges two one k (after k behind)) (cases_lt k (at + n)))
    (cases_lt k at) in
    λ i k. each k i

-- ranges one list after another
pub with_ranges-append : (one two : List Range) (pages : Area) → with_ranges (one ++ two) pages ≡ with_ranges two (with_ranges one pages)
with_ranges-append [] two pages = refl
with_ranges-append (range ∷ one) two pages = with_ranges-append one two (with_range range pages)

-- a range that was written in its place
pub with_range_written : (range : Range) (old new : Area) → ((k : ℕ) → k < range.position → new k ≡ old k) → ((k : ℕ) → range.position + length range.bytes ≤ k → new k ≡ old k)
    → ((k : ℕ) → k < length range.bytes → new (range.position + k) ≡ slice_index range.bytes k) → new ≡ with_range range old
with_range_written range old new before after written =
    let inside_at : (k : ℕ) → Covers range k → new k ≡ slice_index range.bytes (k - range.position) = λ k inside.
    let e : range.position + (k - range.position) ≡ k = omega arith in
    ap new (sym e) ∙ written (k - range.position) (omega arith) in
    let each : (k : ℕ) → new k ≡ with_range range old k = λ k.
    ⊎_elim (λ inside. inside_at k inside ∙ sym (with_range_inside range old k inside))
    (λ outside. ⊎_elim (before k) (after k) outside ∙ sym (with_range_outside range old k outside))
    (covers_cases range k) in
    λ i k. each k i

-- a disk replays as itself
pub same_none : (all : List Range) (disk : Disk) → SameReplay all disk disk
same_none all disk = record { log = refl; pages = refl }

-- a part of a range may be torn
pub same_torn : (all : List Range) (start before image : Disk) (range : Range) (at n : ℕ) → Among range all → range.position ≤ at → at + n ≤ range.position + length range.bytes
    → Torn Pages at n before image → SameReplay all start before → SameReplay all start image
same_torn all start before image range at n among low high torn same = record {
  log = torn.other Log (λ e. cc) ∙ same.log;
  pages = with_ranges_torn all range (before Pages) (image Pages) at n among low high torn.before torn.after ∙ same.pages;
}

-- what a disk with a chain replays to
pub replays_to : (disk : Disk) (pages : Area) (groups : List (List Range)) (tail : ℕ) → IsChain (disk Log) groups tail → Replays disk pages → pages ≡ with_ranges (all_ranges groups) (disk Pages)
replays_to disk pages groups tail chain replays =
    let one = chain_unique (disk Log) replays.groups groups replays.tail tail replays.chain chain in
    replays.replayed ∙ ap (λ (g : List (List Range)). with_ranges (all_ranges g) (disk Pages)) one.0

-- a disk that replays as another, by its chain
pub same_replays : (start image : Disk) (pages : Area) (groups : List (List Range)) (tail : ℕ) → IsChain (start Log) groups tail → SameReplay (all_ranges groups) start image
    → Replays start pages → Replays image pages
same_replays start image pages groups tail chain same replays = record {
  groups = groups;
  tail = tail;
  chain = subst (λ (log : Area). IsChain log groups tail) (sym same.log) chain;
  replayed = replays_to start pages groups tail chain replays ∙ sym same.pages;
}

-- all ranges of groups one list after another
pub all_ranges-append : (one two : List (List Range)) → all_ranges (one ++ two) ≡ all_ranges one ++ all_ranges two
all_ranges-append [] two = refl
all_ranges-append (group ∷ one) two = ap (λ (l : List Range). group ++ l) (all_ranges-append one two) ∙ sym (append_assoc group (all_ranges one) (all_ranges two))

-- all ranges of one group more
pub all_ranges_push : (groups : List (List Range)) (ranges : List Range) → all_ranges (groups ++ ranges ∷ []) ≡ all_ranges groups ++ ranges
all_ranges_push [] ranges = append-nil ranges
all_ranges_push (group ∷ groups) ranges = ap (λ (l : List Range). group ++ l) (all_ranges_push groups ranges) ∙ sym (append_assoc group (all_ranges groups) ranges)

-- a disk replays to one thing
pub replays_unique : (disk : Disk) (pages other : Area) → Replays disk pages → Replays disk other → pages ≡ other
replays_unique disk pages other one two = one.replayed ∙ sym (replays_to disk other one.groups one.tail one.chain two)

-- members of lists one after another
pub among_left : (range : Range) (one two : List Range) → Among range one → Among range (one ++ two)
among_left range [] two among = absurd among
among_left range (first ∷ one) two (inl here) = inl here
among_left range (first ∷ one) two (inr later) = inr (among_left range one two later)

pub among_right : (range : Range) (one two : List Range) → Among range two → Among range (one ++ two)
among_right range [] two among = among
among_right range (first ∷ one) two among = inr (among_right range one two among)

pub among_cases : (range : Range) (one two : List Range) → Among range (one ++ two) → Among range one ⊎ Among range two
among_cases range [] two among = inr among
among_cases range (first ∷ one) two (inl here) = inl (inl here)
among_cases range (first ∷ one) two (inr later) = ⊎_elim (λ left. inl (inr left)) (λ right. inr right) (among_cases range one two later)
