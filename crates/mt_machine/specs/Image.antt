-- Two lists of bytes as a disk of two areas.
use Rattle.std.specs.Prelude.{◌≡◌, ℕ, ◌+◌, ◌<◌, ◌≤◌, List, length, slice_index, Option, Some, None}
use Rattle.mt_machine.specs.declared.machine.Area.{Area}
use Rattle.mt_machine.specs.declared.machine.Area.TheVariants.{Log, Pages}
use Rattle.mt_machine.specs.declared.image.Image.{Image}
use Rattle.mt_machine.specs.Meaning.{Disk}

-- the bytes of an area
abbrev pub area_of : List ℕ → List ℕ → Area → List ℕ
area_of log pages Log = log
area_of log pages Pages = pages

-- the disk that holds these bytes, and zero past the last of each area
abbrev pub disk_of : List ℕ → List ℕ → Disk
disk_of log pages = λ area k. slice_index (area_of log pages area) k

-- the disk on which nothing was written
abbrev pub blank_disk : Disk
blank_disk = λ _ _. 0

-- the disk that an image stands for
abbrev pub image_disk : Image → Disk
image_disk image = disk_of image.log.items image.pages.items

-- the disk at first, where this image was kept of it, or else the image now
abbrev pub first_disk : Option Image → Image → Disk
first_disk None image = image_disk image
first_disk (Some kept) image = image_disk kept

-- the buffer holds what a list holds from a position on, with zero past its end
abbrev pub IsFilled : List ℕ → ℕ → List ℕ → Type 0
IsFilled held at buf = (k : ℕ) → k < length buf → slice_index held (at + k) ≡ slice_index buf k

-- two lists read alike everywhere, zero past the end of each
abbrev pub ReadsAlike : List ℕ → List ℕ → Type 0
ReadsAlike old new = (k : ℕ) → slice_index new k ≡ slice_index old k

-- the bytes stand in the list from a position on, and every other place of it reads as before
pub record IsWritten (old new : List ℕ) (at : ℕ) (bytes : List ℕ) : Type 0 where
  pub before : (k : ℕ) → k < at → slice_index new k ≡ slice_index old k
  pub inside : (k : ℕ) → k < length bytes → slice_index new (at + k) ≡ slice_index bytes k
  pub after : (k : ℕ) → at + length bytes ≤ k → slice_index new k ≡ slice_index old k
