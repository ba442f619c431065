-- The status that is read from a reply.
use Rattle.std.proofs.Common.{◌≡◌, ℕ, ◌+◌, ◌^◌, ◌<◌, Bool, true, false, List, [], ◌∷◌, ◌++◌, length}
use Rattle.std.proofs.Common.{Some, refl, sym, ap, ◌∙◌, subst, append_assoc, arith, lit<}
use Rattle.std.specs.Prelude.{◌&&◌, ◌||◌, ◌==◌, codes, decimal, nat_le, nat_lt, if◌then◌else◌}
use Rattle.std.specs.Str.Parse.{digits_value}
use Rattle.std.proofs.lemmas.Fmt.{decimal_is_IsNumeral}
use Rattle.std.proofs.lemmas.List.{append_cancel_left}
use Rattle.httparse.specs.Grammar.{ResponseHead, ReadsResponse, print_blank}
use Rattle.httparse.proofs.GrammarLemmas.{print_response-append}
use Rattle.fedi_delivery.specs.Replies.{HasHead, IsCameOfPost, EndsPost}
use Rattle.fedi_model.specs.declared.reply.Reply.{Reply}
use Rattle.fedi_model.specs.Refusing.{refused, misshapen}
use Rattle.fedi_model.specs.ReplyText.{reply_text, start_text, status_line}
use Rattle.fedi_reading.specs.declared.shape_fault.ShapeFault.{ShapeFault}
use Rattle.std.specs.Fmt.{digits}
use Rattle.fedi_objects.specs.declared.entry.Came.{Came}
use Rattle.fedi_objects.specs.declared.entry.Sent.{Sent}
use Rattle.fedi_objects.specs.declared.entry.Sent.TheVariants.{Post}
use Rattle.fedi_objects.specs.declared.entry.What.{What}
use Rattle.fedi_objects.specs.declared.entry.What.TheVariants.{Failed, NoHead, BadActor, Status}
use Rattle.fedi_town.specs.declared.outcome.Outcome.TheVariants.{Delivered, Again, GivenUp}
use Rattle.fedi_town.specs.declared.refusal.Refusal.{Refusal}
use Rattle.fedi_town.specs.declared.refusal.Refusal.TheVariants.{BadHead, BadBody, BadQuery, NoKey}
use Rattle.fedi_town.specs.declared.refusal.Refusal.TheVariants.{WrongKey, WrongMac, NotOwner}
use Rattle.fedi_town.specs.declared.refusal.Refusal.TheVariants.{Blocked, NotOrigin, NotPublic}
use Rattle.fedi_town.specs.declared.refusal.Refusal.TheVariants.{NotFound, WrongMethod, KeyReused}
use Rattle.fedi_town.specs.declared.refusal.Refusal.TheVariants.{NotStanding, Gone, NoLength}
use Rattle.fedi_town.specs.declared.refusal.Refusal.TheVariants.{TooLong, WrongType, BadShape}
use Rattle.fedi_town.specs.declared.refusal.Refusal.TheVariants.{HeadTooLong, NoCoding, ActorFull}
use Rattle.fedi_town.specs.declared.refusal.Refusal.TheVariants.{KeeperFault, Memory, JournalFull}
use Rattle.fedi_worlds.proofs.Wire.{no_blank}
use Rattle.fedi_town.specs.Queues.{outcome, status_outcome, step_outcome}

-- ---- the first line

same_front : (xs ys r q : List ℕ) → length xs ≡ length ys → xs ++ r ≡ ys ++ q → xs ≡ ys
same_front [] [] r q n e = refl
same_front [] (y ∷ ys) r q n e = absurd (omega arith)
same_front (x ∷ xs) [] r q n e = absurd (omega arith)
same_front (x ∷ xs) (y ∷ ys) r q n e =
    let first : x ≡ y = cc in
    let rest : xs ++ r ≡ ys ++ q = cc in
    rw (first, same_front xs ys r q (omega arith) rest) refl

digits_are : (ds rest left : List ℕ) (h : ResponseHead) → length ds ≡ 3
    → ReadsResponse (codes "HTTP/1.1 " ++ (ds ++ rest)) h left → h.digits ≡ ds
digits_are ds rest left h three r =
    let tail : List ℕ = _ in
    let whole : codes "HTTP/1.1 " ++ (ds ++ rest)
    ≡ print_blank h.blank ++ (codes "HTTP/1." ++ (48 + h.minor) ∷ 32 ∷ (h.digits ++ tail)) =
    r.1 ∙ print_response-append h left in
    let bare : codes "HTTP/1.1 " ++ (ds ++ rest)
    ≡ codes "HTTP/1." ++ (48 + h.minor) ∷ 32 ∷ (h.digits ++ tail) =
    no_blank h.blank 72 _ _ refl whole in
    let line : 49 ∷ 32 ∷ (ds ++ rest) ≡ (48 + h.minor) ∷ 32 ∷ (h.digits ++ tail) =
    append_cancel_left (codes "HTTP/1.") _ _ bare in
    let digits : ds ++ rest ≡ h.digits ++ tail = cc in
    sym (same_front ds h.digits rest tail (three ∙ sym r.0.digits.0) digits)

-- the text begins with the status line
reply_first : (moment : ℕ) (head_only last : Bool) (r : Reply)
    → (rest : List ℕ)
    × (reply_text moment head_only last r ≡ codes "HTTP/1.1 " ++ (decimal r.status ++ rest))
unfolding start_text status_line
reply_first moment head_only last r = (_, regroup (codes "HTTP/1.1 ") (decimal r.status) _ _ _)
  where
    regroup : (a b c d e : List ℕ) → ((a ++ (b ++ c)) ++ d) ++ e ≡ a ++ (b ++ (c ++ (d ++ e)))
    regroup a b c d e = simp append_assoc

pub status_read : (moment : ℕ) (head_only last : Bool) (r : Reply) (status : ℕ) (rest : List ℕ)
    → length (decimal r.status) ≡ 3 → r.status < 2 ^ 64
    → HasHead (reply_text moment head_only last r) status rest → status ≡ r.status
status_read moment head_only last r status rest three small h =
    let f = reply_first moment head_only last r in
    let reads : ReadsResponse (codes "HTTP/1.1 " ++ (decimal r.status ++ f.0)) h.head rest =
    subst (λ (s : List ℕ). ReadsResponse s h.head rest) f.1 h.reads in
    h.status_is
    ∙ (ap (λ (ds : List ℕ). digits_value 10 ds)
    (digits_are (decimal r.status) f.0 rest h.head three reads)
    ∙ (decimal_is_IsNumeral r.status small).1)

-- ---- what is no success

abbrev pub is_good : ℕ → Bool
is_good status = nat_le 200 status && nat_lt status 300

-- a status of three digits that is no success
pub record IsBad (status : ℕ) : Type 0 where
  pub three : length (decimal status) ≡ 3
  pub small : status < 2 ^ 64
  pub bad : is_good status ≡ false

no_success : (status : ℕ) → is_good status ≡ false → status_outcome Post status ≡ Delivered → ⊥
no_success status bad e =
    elim (status == 404 || status == 410) as (λ b.
    (if b then GivenUp else step_outcome Post status) ≡ Delivered → ⊥) [
      | true ↦ λ h. cc
      | false ↦
          λ h. elim (is_good status) as (λ b. is_good status ≡ b
          → (if b then Delivered else Again) ≡ Delivered → ⊥) [
            | true ↦ λ k i. let no : is_good status ≡ false = bad in cc
            | false ↦ λ k i. cc
          ] refl h
    ] e

of_what : (moment : ℕ) (head_only last : Bool) (r : Reply) (what : What) → IsBad r.status
    → EndsPost (reply_text moment head_only last r) what
    → outcome (record { step = Post; what = what }) ≡ Delivered → ⊥
of_what moment head_only last r Failed bad e d = e
of_what moment head_only last r NoHead bad e d = cc
of_what moment head_only last r BadActor bad e d = e
of_what moment head_only last r (Status s) bad e d =
    let same : s ≡ r.status = status_read moment head_only last r s e.0 bad.three bad.small e.1 in
    no_success s (subst (λ (n : ℕ). is_good n ≡ false) (sym same) bad.bad) d

pub never_delivered : (moment : ℕ) (head_only last : Bool) (r : Reply) (came : Came)
    → IsBad r.status → IsCameOfPost (Some (reply_text moment head_only last r)) came
    → outcome came ≡ Delivered → ⊥
never_delivered moment head_only last r came bad c d =
    of_what moment head_only last r came.what bad c.1
    (subst (λ (s : Sent). outcome (record { step = s; what = came.what }) ≡ Delivered) c.0 d)

pub refused_bad : (e : Refusal) → IsBad (refused e).status
unfolding digits
refused_bad BadHead = record { three = refl; small = lit< tt; bad = refl }
refused_bad BadBody = record { three = refl; small = lit< tt; bad = refl }
refused_bad BadQuery = record { three = refl; small = lit< tt; bad = refl }
refused_bad NoKey = record { three = refl; small = lit< tt; bad = refl }
refused_bad WrongKey = record { three = refl; small = lit< tt; bad = refl }
refused_bad WrongMac = record { three = refl; small = lit< tt; bad = refl }
refused_bad NotOwner = record { three = refl; small = lit< tt; bad = refl }
refused_bad Blocked = record { three = refl; small = lit< tt; bad = refl }
refused_bad NotOrigin = record { three = refl; small = lit< tt; bad = refl }
refused_bad NotPublic = record { three = refl; small = lit< tt; bad = refl }
refused_bad NotFound = record { three = refl; small = lit< tt; bad = refl }
refused_bad WrongMethod = record { three = refl; small = lit< tt; bad = refl }
refused_bad KeyReused = record { three = refl; small = lit< tt; bad = refl }
refused_bad NotStanding = record { three = refl; small = lit< tt; bad = refl }
refused_bad Gone = record { three = refl; small = lit< tt; bad = refl }
refused_bad NoLength = record { three = refl; small = lit< tt; bad = refl }
refused_bad TooLong = record { three = refl; small = lit< tt; bad = refl }
refused_bad WrongType = record { three = refl; small = lit< tt; bad = refl }
refused_bad BadShape = record { three = refl; small = lit< tt; bad = refl }
refused_bad HeadTooLong = record { three = refl; small = lit< tt; bad = refl }
refused_bad NoCoding = record { three = refl; small = lit< tt; bad = refl }
refused_bad ActorFull = record { three = refl; small = lit< tt; bad = refl }
refused_bad KeeperFault = record { three = refl; small = lit< tt; bad = refl }
refused_bad Memory = record { three = refl; small = lit< tt; bad = refl }
refused_bad JournalFull = record { three = refl; small = lit< tt; bad = refl }

pub misshapen_bad : (f : ShapeFault) → IsBad (misshapen f).status
unfolding digits
misshapen_bad f = record { three = refl; small = lit< tt; bad = refl }
