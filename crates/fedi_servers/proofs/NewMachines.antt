-- The machine of a server that was set up, and has nothing else so far.
use Rattle.std.proofs.Common.{◌≡◌, ◌∙◌, ◌<◌, ◌+◌, ℕ, true, List, [], ◌∷◌, ◌++◌, length, Option, None, Some, refl, sym, ap, subst, arith}
use Rattle.std.specs.Cmp.Derive.{both_true}
use Rattle.std.specs.Prelude.{IsTrue, IsUtf8, codes, is_some}
use Rattle.std.proofs.lemmas.Slice.Eq.{bytes_eq-Decides}
use Rattle.std.proofs.lemmas.Str.{is_utf8-from_IsUtf8}
use Rattle.fedi_address.specs.Hosts.{IsHost, address}
use Rattle.fedi_address.specs.Iris.{normal}
use Rattle.fedi_entry.specs.Codes.{code_of}
use Rattle.fedi_entry.specs.Fields.{IsFormed, is_host, is_own}
use Rattle.fedi_entry.specs.Limits.{KeepsLimits}
use Rattle.fedi_log.specs.Keeping.{growth_of}
use Rattle.fedi_objects.specs.declared.entry.Entry.{Entry}
use Rattle.fedi_objects.specs.declared.entry.Entry.TheVariants.{Hosted}
use Rattle.fedi_opening.proofs.Answers.{read_once}
use Rattle.fedi_opening.specs.Opening.{IsNext, IsRead}
use Rattle.fedi_outside.specs.MemoryKeepers.{CalmKeeperState, no_records}
use Rattle.fedi_queue.specs.Rows.{rows_of}
use Rattle.fedi_servers.specs.Founding.{moment}
use Rattle.fedi_servers.specs.Machines.{IsNewMachine, ServerMachine, growth}
use Rattle.fedi_servers.proofs.Setting.{no_rows}
use Rattle.fedi_town.specs.Histories.{town}
use Rattle.fedi_town.specs.Towns.{empty_town}
use Rattle.fedi_worlds.specs.Promises.{IsSetUp}

pub first_next : (host : List ℕ) (at : ℕ) → IsUtf8 host → IsHost host → at < 253402300800
    → IsNext empty_town (Hosted host at)
unfolding IsFormed is_host
first_next host at utf8 is_one bound = record {
  formed = (record { utf8 = is_utf8-from_IsUtf8 host utf8; passes = both_true is_one.shape own }, bound);
  admissible = is_one.shape;
}
  where
    text : List ℕ
    text = address host (codes "/")

    own : is_own (normal text) text ≡ true
    own = ap (λ (o : Option (List ℕ)). is_own o text) is_one.own ∙ (bytes_eq-Decides text text).1 refl

pub first_limits : (host : List ℕ) (at : ℕ) → KeepsLimits (Hosted host at)
unfolding KeepsLimits
first_limits host at = tt

first_read : (e : Entry) → IsNext empty_town e → IsRead (Some (code_of e ∷ [])) 1 (e ∷ [])
first_read e next = record {
  legal = record { admissible = both_true next.admissible refl };
  formed = (next.formed, tt);
  counted = refl;
  spelled = refl;
}

pub new_machine : (host code : List ℕ) (records : List (List ℕ)) (m : ServerMachine)
    → IsNext empty_town (Hosted host moment) → code ≡ code_of (Hosted host moment)
    → records ≡ code ∷ [] → IsRead (Some records) (length records) m.history
    → m.rows ≡ rows_of (town m.history) → m.keeper.end ≡ 9 + length code → IsNewMachine host m
new_machine host code records m next spelled one read rows end =
    let e = Hosted host moment in
    let only : records ≡ code_of e ∷ [] = one ∙ ap (λ (c : List ℕ). c ∷ []) spelled in
    let opened = subst (λ (rs : List (List ℕ)). IsRead (Some rs) (length rs) m.history) only read in
    let history : m.history ≡ e ∷ [] =
    read_once (code_of e ∷ []) m.history (e ∷ []) opened (first_read e next) in
    let quiet : (town m.history).acts ≡ [] = ap (λ (h : List Entry). (town h).acts) history in
    let size : length code ≡ length (code_of e) = ap length spelled in
    let last : m.keeper.end ≡ growth_of growth (e ∷ []) = omega (arith, end, size) in
    record {
      history = history;
      founded = record {
        hosted = subst (λ (h : List Entry). IsTrue (is_some (town h).host)) (sym history) refl;
        set_up = subst (λ (h : List Entry). IsSetUp h) (sym history) tt;
        quiet = quiet;
        idle = rows ∙ no_rows (town m.history) quiet;
        end = last ∙ ap (growth_of growth) (sym history);
      };
    }

-- ---- its keeper

pub keeper_after : (new reserved after : CalmKeeperState) (code payload : List ℕ) (spare : ℕ)
    → new ≡ no_records 0 → reserved ≡ record new { spare = spare } → payload ≡ code
    → after ≡ record {
      records = reserved.records ++ payload ∷ [];
      doubt = None;
      spare = 0;
      end = reserved.end + (9 + length payload);
    } → (after.records ≡ code ∷ []) × (after.end ≡ 9 + length code)
keeper_after new reserved after code payload spare first second same last =
    let blank : reserved.records ≡ [] =
    ap (λ (k : CalmKeeperState). k.records) second ∙ ap (λ (k : CalmKeeperState). k.records) first in
    let start : reserved.end ≡ 0 =
    ap (λ (k : CalmKeeperState). k.end) second ∙ ap (λ (k : CalmKeeperState). k.end) first in
    let moved : after.end ≡ reserved.end + (9 + length payload) = ap (λ (k : CalmKeeperState). k.end) last in
    let size : length payload ≡ length code = ap length same in (
      ap (λ (k : CalmKeeperState). k.records) last
          ∙ (ap (λ (l : List (List ℕ)). l ++ payload ∷ []) blank ∙ ap (λ (p : List ℕ). p ∷ []) same),
      omega (arith, moved, start, size),
    )
