use Rattle.std.proofs.Common.{◌≡◌, ◌+◌, ◌≤◌, length, take}
use Rattle.std.specs.List.{suffix_len}
use Rattle.fedi_model.specs.Requests.{is_blank}
use Rattle.fedi_http.proofs.framing.trim_end.Given as goal

abbrev pub invariant-blanks : goal.invariant-blanks
invariant-blanks l = record {
  within : l.end ≤ length l.text;
  blank : suffix_len is_blank l.text + l.end ≡ length l.text + suffix_len is_blank (take l.end l.text);
}

abbrev pub decreases-blanks : goal.decreases-blanks
decreases-blanks l = l.end
