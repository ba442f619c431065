-- What a crash leaves on a disk with a file of records.
use Rattle.std.proofs.Common.{ℕ, ◌+◌, ◌≤◌, List, length, inl, inr, ◌⊎◌, arith}
use Rattle.fedi_outside.specs.Images.{Format, IsFormat, IsImage}
use Rattle.fedi_outside.specs.Known.{record_crashes}
use Rattle.fedi_outside.proofs.Finding.{images_known}
use Rattle.fedi_outside.specs.Disks.{DiskCrashes, DiskState}
use Rattle.fedi_outside.specs.Keepers.{Adds, MayLeave}
use Rattle.fedi_log.specs.Keeping.{Base}
use Rattle.fedi_log.specs.Leaving.{IsLeft}
use Rattle.fedi_log.specs.Log.{Log}
use Rattle.fedi_log.proofs.Leaving.{few_kept, few_left, left_first}

pub files_left : (f : Format) (opened now : DiskState) (before after : DiskCrashes) (base : Base) (log : Log) (kept : List (List ℕ)) → IsFormat f
    → ((left : List (List ℕ)) → (record_crashes f opened before).left_since before.clock left → MayLeave kept base.shown.doubt left)
    → Adds before.clock (record_crashes f opened before).left_since (record_crashes f now after).left_since (IsLeft base log kept)
    → (image : List ℕ) → after.left_since before.clock image → (left : List (List ℕ)) × IsImage f left image × IsLeft base log kept left
files_left f opened now before after base log kept ok first adds image is =
    let file = images_known f ok opened now before after (MayLeave kept base.shown.doubt) (IsLeft base log kept) (length kept + length log + 1) first adds few_first
    (few_left base log kept) image is in
    (file.0, file.1, left file.0 file.2)
  where
    few_first : (rs : List (List ℕ)) → MayLeave kept base.shown.doubt rs → length rs ≤ length kept + length log + 1
    few_first rs may = omega (arith, few_kept kept base.shown.doubt rs may)

    left : (rs : List (List ℕ)) → MayLeave kept base.shown.doubt rs ⊎ IsLeft base log kept rs → IsLeft base log kept rs
    left rs (inl may) = left_first base log kept rs may
    left rs (inr is) = is
