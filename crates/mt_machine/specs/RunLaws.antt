-- Laws of a run: what a machine in memory shows of itself at each time.
use Rattle.std.proofs.Common.{◌≡◌, ◌≢◌, ℕ, ◌+◌, ◌-◌, ◌<◌, ◌≤◌, IsTrue, List, [], ◌∷◌, length, slice_index, reverse, refl, sym, ◌∙◌, subst, inl, inr, arith}
use Rattle.std.proofs.lemmas.Bool.Decides.{nat_tests}
use Rattle.std.proofs.lemmas.List.{length-reverse}
use Rattle.mt_machine.specs.declared.machine.Area.{Area}
use Rattle.mt_machine.specs.declared.machine.Area.TheVariants.{Log, Pages}
use Rattle.mt_machine.specs.declared.step.Step.{Step}
use Rattle.mt_machine.specs.declared.step.Step.TheVariants.{Wrote, Synced, Passed, Emitted}
use Rattle.mt_machine.specs.Meaning.{Disk}
use Rattle.mt_machine.specs.Calls.{Torn}
use Rattle.mt_machine.specs.Run.{IsTied, Run, content_of, images_of, output_of, over, since_of, with_bytes}

-- below the bytes an area is as before
over-before : (at : ℕ) (bytes : List ℕ) (old : ℕ → ℕ) (k : ℕ) → k < at → over at bytes old k ≡ old k
over-before at bytes old k below = grind (arith, nat_tests)

-- past the bytes an area is as before
over-after : (at : ℕ) (bytes : List ℕ) (old : ℕ → ℕ) (k : ℕ) → at + length bytes ≤ k → over at bytes old k ≡ old k
over-after at bytes old k past = grind (arith, nat_tests)

-- the bytes stand where they were put
over-inside : (at : ℕ) (bytes : List ℕ) (old : ℕ → ℕ) (k : ℕ) → k < length bytes → over at bytes old (at + k) ≡ slice_index bytes k
over-inside at bytes old k within = let e : at + k - at ≡ k = omega arith in grind (arith, nat_tests)

-- a disk is torn where bytes are put, and in each wider range
pub torn_by_bytes : (area : Area) (at : ℕ) (bytes : List ℕ) (n : ℕ) (old : Disk) → length bytes ≤ n → Torn area at n old (with_bytes area at bytes old)
torn_by_bytes Log at bytes n old wide = record {
  before = λ k below. over-before at bytes (old Log) k below;
  after = λ k past. over-after at bytes (old Log) k (omega arith);
  other = λ area. elim area as (λ b. b ≢ Log → with_bytes Log at bytes old b ≡ old b) [ Log ↦ λ same. absurd (same refl) | Pages ↦ λ _. refl ];
}
torn_by_bytes Pages at bytes n old wide = record {
  before = λ k below. over-before at bytes (old Pages) k below;
  after = λ k past. over-after at bytes (old Pages) k (omega arith);
  other = λ area. elim area as (λ b. b ≢ Pages → with_bytes Pages at bytes old b ≡ old b) [ Log ↦ λ _. refl | Pages ↦ λ same. absurd (same refl) ];
}

-- put bytes stand
pub bytes_stand : (area : Area) (at : ℕ) (bytes : List ℕ) (old : Disk) (k : ℕ) → k < length bytes → with_bytes area at bytes old area (at + k) ≡ slice_index bytes k
bytes_stand Log at bytes old k within = over-inside at bytes (old Log) k within
bytes_stand Pages at bytes old k within = over-inside at bytes (old Pages) k within

-- the contents are one of the images
pub content_of_is_image : (first : Disk) (past : List Step) → images_of first past (content_of first past)
content_of_is_image first [] = refl
content_of_is_image first (Wrote area at bytes unwritten ∷ older) =
    (content_of first older, content_of_is_image first older, torn_by_bytes area at bytes (length bytes + unwritten) (content_of first older) (omega arith))
content_of_is_image first (Synced ∷ older) = refl
content_of_is_image first (Passed ∷ older) = content_of_is_image first older
content_of_is_image first (Emitted bytes ∷ older) = content_of_is_image first older

-- a stop now is a stop since each earlier time
pub since_of_now : (first : Disk) (past : List Step) (t : ℕ) (image : Disk) → t ≤ length past → images_of first past image → since_of first past t image (output_of past)
since_of_now first [] t image earlier now = (earlier, now, refl)
since_of_now first (step ∷ older) t image earlier now = inr (inr (earlier, now, refl))

-- there are no moments since a time to come
pub since_of_within : (first : Disk) (past : List Step) (t : ℕ) (image : Disk) (out : List ℕ) → since_of first past t image out → t ≤ length past
since_of_within first [] t image out was = was.0
since_of_within first (step ∷ older) t image out (inl was) = let h = since_of_within first older t image out was in omega arith
since_of_within first (step ∷ older) t image out (inr (inl was)) = let h = was.0 in omega arith
since_of_within first (step ∷ older) t image out (inr (inr was)) = was.0

-- since now there is just now
pub since_of_only_now : (first : Disk) (past : List Step) (image : Disk) (out : List ℕ) → since_of first past (length past) image out → images_of first past image × (out ≡ output_of past)
since_of_only_now first [] image out was = (was.1, was.2)
since_of_only_now first (step ∷ older) image out (inl was) = let h = since_of_within first older (length (step ∷ older)) image out was in absurd (omega arith)
since_of_only_now first (step ∷ older) image out (inr (inl was)) = let h = was.0 in absurd (omega arith)
since_of_only_now first (step ∷ older) image out (inr (inr was)) = (was.1, was.2)

-- the same of a machine, while it holds what its run leaves
pub run_content_is_image : (run : Run) → IsTied run → IsTrue run.tells → images_of run.first (reverse run.steps) run.content
run_content_is_image run tied tells = subst (λ disk. images_of run.first (reverse run.steps) disk) (sym (tied tells).content_is) (content_of_is_image run.first (reverse run.steps))

pub run_counts_now : (run : Run) → IsTied run → (t : ℕ) (image : Disk) → IsTrue run.tells → t ≤ length run.steps → images_of run.first (reverse run.steps) image → since_of run.first (reverse run.steps) t image run.output
run_counts_now run tied t image tells earlier now =
    let within : t ≤ length (reverse run.steps) = omega (arith, length-reverse run.steps) in
    subst (λ out. since_of run.first (reverse run.steps) t image out) (sym (tied tells).output_is) (since_of_now run.first (reverse run.steps) t image within now)

pub run_only_now : (run : Run) → IsTied run → (image : Disk) (out : List ℕ) → IsTrue run.tells → since_of run.first (reverse run.steps) (length run.steps) image out → images_of run.first (reverse run.steps) image × (out ≡ run.output)
run_only_now run tied image out tells since =
    let now = since_of_only_now run.first (reverse run.steps) image out (subst (λ t. since_of run.first (reverse run.steps) t image out) (sym (length-reverse run.steps)) since) in
    (now.0, now.1 ∙ sym (tied tells).output_is)
