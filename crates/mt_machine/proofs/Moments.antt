-- What is filled in is a moment of the run.
use Rattle.std.proofs.Common.{◌≡◌, ℕ, ◌+◌, ◌-◌, ◌<◌, ◌≤◌, List, [], ◌∷◌, ◌++◌, length, get_or, take, drop, reverse, slice_get, Some, refl, sym, ap, ◌∙◌, subst, subst₂, inl, inr, arith, take-append-drop}
use Rattle.std.proofs.lemmas.List.{append_assoc, drop_more, length-replicate, length-reverse, length-take, reverse-append}
use Rattle.std.proofs.lemmas.Option.{get_or_from_slice_get}
use Rattle.mt_machine.specs.declared.machine.Area.{Area}
use Rattle.mt_machine.specs.declared.step.Step.{Step}
use Rattle.mt_machine.specs.declared.step.Step.TheVariants.{Wrote, Synced, Passed, Emitted}
use Rattle.mt_machine.specs.declared.stop.Fill.{Fill}
use Rattle.mt_machine.specs.declared.stop.Fill.TheVariants.{Kept, Byte}
use Rattle.mt_machine.specs.declared.stop.Stopped.{Stopped}
use Rattle.mt_machine.specs.Image.{disk_of}
use Rattle.mt_machine.specs.Meaning.{Disk}
use Rattle.mt_machine.specs.Calls.{Torn}
use Rattle.mt_machine.specs.Run.{WithinStep, filled_by, filled_of, filling, images_of, output_of, since_of}
use Rattle.mt_machine.specs.RunLaws.{torn_by_bytes}
use Rattle.mt_machine.specs.Stops.{IsStopIn, before_call}
use Rattle.mt_machine.proofs.Fronts.{puts_out_none}

-- what fills a range is no longer than it
length-filling : (fill : Fill) (bytes : List ℕ) (unwritten : ℕ) → length (filling fill bytes unwritten) ≤ length bytes + unwritten
length-filling Kept bytes unwritten = omega arith
length-filling (Byte b) bytes unwritten = omega (arith, length-replicate (length bytes + unwritten) b)

-- a filled range tears the disk in that range
torn_by_filling : (fill : Fill) (area : Area) (at : ℕ) (bytes : List ℕ) (unwritten : ℕ) (old : Disk) → Torn area at (length bytes + unwritten) old (filled_by fill (Wrote area at bytes unwritten) old)
torn_by_filling fill area at bytes unwritten old = torn_by_bytes area at (filling fill bytes unwritten) (length bytes + unwritten) old (length-filling fill bytes unwritten)

-- with the ranges filled since the last sync the disk is one of the images
filled_of-is_image : (fill : Fill) (first : Disk) (past : List Step) → images_of first past (filled_of fill first past)
filled_of-is_image fill first [] = refl
filled_of-is_image fill first (Wrote area at bytes unwritten ∷ older) = (filled_of fill first older, filled_of-is_image fill first older, torn_by_filling fill area at bytes unwritten (filled_of fill first older))
filled_of-is_image fill first (Synced ∷ older) = refl
filled_of-is_image fill first (Passed ∷ older) = filled_of-is_image fill first older
filled_of-is_image fill first (Emitted bytes ∷ older) = filled_of-is_image fill first older

-- with the range of the step filled too, this is a moment within the step
filled_by-within : (fill : Fill) (first : Disk) (past : List Step) (step : Step) → WithinStep step (images_of first past) (output_of past) (filled_by fill step (filled_of fill first past)) (output_of past)
filled_by-within fill first past (Wrote area at bytes unwritten) = ((filled_of fill first past, filled_of-is_image fill first past, torn_by_filling fill area at bytes unwritten (filled_of fill first past)), refl)
filled_by-within fill first past Synced = (filled_of-is_image fill first past, refl)
filled_by-within fill first past Passed = (filled_of-is_image fill first past, refl)
filled_by-within fill first past (Emitted bytes) = (filled_of-is_image fill first past, puts_out_none bytes (output_of past))

-- a moment of a run is one of each longer run
since_of-longer : (first : Disk) (newer past : List Step) (t : ℕ) (image : Disk) (out : List ℕ) → since_of first past t image out → since_of first (newer ++ past) t image out
since_of-longer first [] past t image out was = was
since_of-longer first (step ∷ newer) past t image out was = inl (since_of-longer first newer past t image out was)

-- the run up to a step and the steps behind it, the newest first
reverse-at : (steps : List Step) (i : ℕ) (step : Step) → i < length steps → slice_get steps i ≡ Some step → reverse steps ≡ reverse (drop (i + 1) steps) ++ (step ∷ reverse (take i steps))
reverse-at steps i step within made =
    let read : get_or steps i step ≡ step = get_or_from_slice_get steps i step step made in
    let back : drop i steps ≡ step ∷ drop (i + 1) steps = drop_more steps i step within ∙ ap (λ one. one ∷ drop (i + 1) steps) read in
    ap reverse (sym (take-append-drop i steps))
    ∙ reverse-append (take i steps) (drop i steps)
    ∙ ap (λ rest. reverse rest ++ reverse (take i steps)) back
    ∙ ap (λ front. front ++ reverse (take i steps)) (reverse-append (step ∷ []) (drop (i + 1) steps))
    ∙ append_assoc (reverse (drop (i + 1) steps)) (step ∷ []) (reverse (take i steps))

-- what a stop within a call leaves is a moment within it
pub stop_is_moment : (fill : Fill) (first : Disk) (steps : List Step) (call : ℕ) (stopped : Stopped) → 1 ≤ call → call ≤ length steps → IsStopIn fill first steps call stopped
    → since_of first (reverse steps) (call - 1) (disk_of stopped.log stopped.pages) stopped.out
stop_is_moment fill first steps call stopped from to stop =
    let past = before_call call steps in
    let early : call - 1 ≤ length past = omega (arith, length-reverse (take (call - 1) steps), length-take (call - 1) steps) in
    let within = subst₂ (λ image out. WithinStep stop.step (images_of first past) (output_of past) image out) (sym stop.areas) (sym stop.out) (filled_by-within fill first past stop.step) in
    let moment : since_of first (stop.step ∷ past) (call - 1) (disk_of stopped.log stopped.pages) stopped.out = inr (inl (early, within)) in
    let run = reverse-at steps (call - 1) stop.step (omega arith) stop.made in
    subst (λ run. since_of first run (call - 1) (disk_of stopped.log stopped.pages) stopped.out) (sym run)
    (since_of-longer first (reverse (drop (call - 1 + 1) steps)) (stop.step ∷ past) (call - 1) (disk_of stopped.log stopped.pages) stopped.out moment)
