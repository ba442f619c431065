-- Lemmas on a text that is written piece by piece.
use Rattle.std.proofs.Common.{◌≡◌, ◌∙◌, ◌+◌, arith, ap, subst, sym, ◌≤◌, ℕ, List, ◌++◌, length, take, Option}
use Rattle.std.proofs.Math.Seq.{take-append-add}
use Rattle.std.proofs.lemmas.List.{append_assoc, length-append, take-append-le}
use Rattle.std.specs.Io.KnownBytes.{Appends}
use Rattle.std.proofs.KnownBytes.{Appends-trans}
use Rattle.fedi_logged.specs.Endings.{Output, Writes}
use Rattle.fedi_outside.specs.Causes.{next_count}
use Rattle.fedi_report.specs.Tables.{Stops}
use Rattle.fedi_report.specs.declared.tables.ReportFault.{ReportFault}
use Rattle.fedi_report.specs.declared.tables.ReportFault.TheVariants.{WriteFault, Memory}

-- a prefix of the second piece, after the first, is a prefix of both and what follows
front_of_all : (x y z : List ℕ) (n : ℕ) → n ≤ length y → take (length x + n) ((x ++ y) ++ z) ≡ x ++ take n y
front_of_all x y z n short =
    ap (take (length x + n)) (append_assoc x y z) ∙ take-append-add x (y ++ z) n ∙ ap (λ t. x ++ t) (take-append-le n y z short)

-- what was sent of the second piece, after the first one
sent_on : (a b c : Option (List ℕ)) (x y z : List ℕ) (n : ℕ) → n ≤ length y → Appends a b x → Appends b c (take n y)
    → Appends a c (take (length x + n) ((x ++ y) ++ z))
sent_on a b c x y z n short first next = subst (Appends a c) (sym (front_of_all x y z n short)) (Appends-trans a b c x (take n y) first next)

-- what was written of both pieces when the second stopped
pub stopped_on : (fault : ReportFault) (a b c : Output) (x y z whole : List ℕ) → whole ≡ (x ++ y) ++ z → Writes a b x → Stops b c y fault
    → Stops a c whole fault
stopped_on WriteFault a b c x y z whole is first next = record {
  prefix = length x + next.prefix;
  short =
      let short = next.short in
      let size : length whole ≡ length x + length y + length z = ap length is ∙ length-append (x ++ y) z ∙ ap (λ n. n + length z) (length-append x y) in
      omega (arith, short, size);
  sent =
      let short = next.short in
      let within : next.prefix ≤ length y = omega (arith, short) in
      subst (λ t. Appends a.sent c.sent (take (length x + next.prefix) t)) (sym is)
      (sent_on a.sent b.sent c.sent x y z next.prefix within first.sent next.sent);
  cause = next.cause ∙ ap next_count first.calm;
}
stopped_on Memory a b c x y z whole is first next = record {
  prefix = length x + next.prefix;
  within =
      let within = next.within in
      let size : length whole ≡ length x + length y + length z = ap length is ∙ length-append (x ++ y) z ∙ ap (λ n. n + length z) (length-append x y) in
      omega (arith, within, size);
  sent =
      subst (λ t. Appends a.sent c.sent (take (length x + next.prefix) t)) (sym is)
      (sent_on a.sent b.sent c.sent x y z next.prefix next.within first.sent next.sent);
  calm = next.calm ∙ first.calm;
}
