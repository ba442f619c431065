-- An entry that is read is encoded by the bytes that were read, and its code is read again.
use Rattle.std.proofs.Common.{◌≡◌, ℕ, ◌+◌, ◌^◌, ◌<◌, ◌≤◌, Bool, true, false, cond, List, [], ◌∷◌, ◌++◌, length, get_or, Option, Result, Ok, Err, refl, sym, ap, subst, ◌∙◌, arith, inl, inr}
use Rattle.std.specs.Prelude.{IfSome, IsTrue, ◌&&◌, ◌==◌, nat_le, codes}
use Rattle.std.specs.List.{list_all, before_first, after_first, position_or_len}
use Rattle.std.proofs.lemmas.Bool.{and_parts, cases_lt, or_cases}
use Rattle.std.proofs.lemmas.List.Sums.{split_at_first}
use Rattle.std.proofs.lemmas.Bool.Decides.{nat_tests}
use Rattle.std.proofs.lemmas.List.{append-nil, length-append, length-take}
use Rattle.fedi_address.specs.Hosts.{address, is_host_text, is_domain, is_port, is_colon, is_domain_and_port}
use Rattle.fedi_address.specs.Iris.{normal}
use Rattle.fedi_address.specs.Names.{is_name, is_name_byte}
use Rattle.fedi_objects.specs.Keys.{is_visible, is_repeat_key}
use Rattle.fedi_objects.specs.declared.activity.Activity.{Activity}
use Rattle.fedi_objects.specs.declared.entry.Came.{Came}
use Rattle.fedi_objects.specs.declared.entry.Entry.{Entry}
use Rattle.fedi_objects.specs.declared.entry.Entry.TheVariants.{Hosted, Made, PeerSet, Local, Remote, Tried}
use Rattle.fedi_objects.specs.declared.entry.Sent.{Sent}
use Rattle.fedi_objects.specs.declared.entry.Sent.TheVariants.{Lookup, Post}
use Rattle.fedi_objects.specs.declared.entry.What.{What}
use Rattle.fedi_objects.specs.declared.entry.What.TheVariants.{Failed, NoHead, BadActor, Status}
use Rattle.fedi_entry.specs.declared.fault.ReadFault.{ReadFault}
use Rattle.fedi_entry.specs.declared.fault.ReadFault.TheVariants.{BadField}
use Rattle.fedi_entry.specs.Codes.{u64_code, bool_code, text_code, option_code, repeat_code, sent_number, what_code, came_code, activity_code, fields_code, code_of}
use Rattle.fedi_objects.specs.Limits.{is_address}
use Rattle.fedi_entry.specs.Fields.{is_host, is_iri, is_own, IsFormed, IsActivity, IsKey, IsMoment, IsRepeat, IsText, MayCome}
use Rattle.fedi_entry.specs.Reading.{◌>>=◌, ◌&◌, made_of, Read, byte_at, bytes_at, text_at, flag_at, iri_at, moment_at, status_at, option_at, activity_at, repeat_at, sent_at, is_lookup, what_at, came_at, hosted_at, made_at, peer_set_at, local_at, remote_at, tried_at, entry_at, ended, last_at, placed, read_entry, Fails}
use Rattle.fedi_entry.proofs.ReadingLemmas.{Reads, IsBytes, bytes_behind, bind_ok, passed_ok, pair_reads, made_takes, text_reads, byte_is, choice_ok, said, option_reads, moment_reads, status_reads, key_reads, flag_reads}
use Rattle.fedi_entry.proofs.ReadObjects.{iri_reads, activity_reads}

-- ---- texts

name_short : (t : List ℕ) → IsTrue (is_name t) → length t < 2 ^ 32
name_short t passes =
    grind (arith, nat_tests, (and_parts (nat_le 1 (length t)) (nat_le (length t) 30) (and_parts (nat_le 1 (length t) && nat_le (length t) 30) (list_all is_name_byte t) passes).0).1)

name_reads : Reads text_code (IsText is_name) (text_at is_name)
name_reads = text_reads is_name name_short

repeat_key_short : (t : List ℕ) → IsTrue (is_repeat_key t) → length t < 2 ^ 32
repeat_key_short t passes =
    grind (arith, nat_tests, (and_parts (nat_le 1 (length t)) (nat_le (length t) 64) (and_parts (nat_le 1 (length t) && nat_le (length t) 64) (list_all is_visible t) passes).0).1)

address_short : (t : List ℕ) → IsTrue (is_address t) → length t < 2 ^ 32
address_short t passes =
    grind (arith, nat_tests, (and_parts (nat_le 1 (length t)) (nat_le (length t) 255) (and_parts (nat_le 1 (length t) && nat_le (length t) 255) (list_all is_visible t) passes).0).1)

address_reads : Reads text_code (IsText is_address) (text_at is_address)
address_reads = text_reads is_address address_short

-- ---- the result of a delivery

repeat_reads : Reads repeat_code IsRepeat repeat_at
unfolding repeat_code
repeat_reads = pair_reads (text_reads is_repeat_key repeat_key_short) (key_reads 32)

abbrev sent_code : Sent → List ℕ
sent_code step = sent_number step ∷ []

sent_takes : (bytes : List ℕ) (x : Sent × List ℕ) → sent_at bytes ≡ Ok x → (bytes ≡ sent_code x.0 ++ x.1) × Unit {0}
unfolding sent_at
sent_takes bytes x e =
    let b = bind_ok (byte_at bytes) (λ b. cond (b.0 == 0) (Ok (Lookup, b.1)) (cond (b.0 == 1) (Ok (Post, b.1)) (Err (length bytes)))) x e in
    let spelled = byte_is bytes b.0 b.1 in
    let post : Read Sent = cond (b.0.0 == 1) (Ok (Post, b.0.1)) (Err (length bytes)) in
    elim (choice_ok b.0.0 0 (Ok (Lookup, b.0.1)) post x b.2) [
      | inl is ↦ said b.0.0 0 sent_code (λ s. Unit {0}) Lookup bytes b.0.1 x refl tt spelled is.0 is.1
      | inr e ↦ elim (choice_ok b.0.0 1 (Ok (Post, b.0.1)) (Err (length bytes)) x e) [
        | inl is ↦ said b.0.0 1 sent_code (λ s. Unit {0}) Post bytes b.0.1 x refl tt spelled is.0 is.1
        | inr e ↦ absurd (cc e)
      ]
    ]

sent_again : (step : Sent) (rest : List ℕ) → sent_at (sent_code step ++ rest) ≡ Ok (step, rest)
unfolding sent_at byte_at
sent_again Lookup rest = refl
sent_again Post rest = refl

sent_reads : Reads sent_code (λ step. Unit {0}) sent_at
sent_reads = record { takes = λ bytes x fits e. sent_takes bytes x e; again = λ step rest v. sent_again step rest }

bad_actor_may_come : (step : Sent) (b : ℕ) → (b == 2 && is_lookup step) ≡ true → (b ≡ 2) × MayCome step BadActor
bad_actor_may_come Lookup b passes = (grind (arith, nat_tests, (and_parts (b == 2) true passes).0), tt)
bad_actor_may_come Post b passes = absurd (let no : false ≡ true = (and_parts (b == 2) false passes).1 in cc no)

what_takes : (step : Sent) (bytes : List ℕ) (x : What × List ℕ) → IsBytes bytes → what_at step bytes ≡ Ok x → (bytes ≡ what_code x.0 ++ x.1) × MayCome step x.0
unfolding what_at what_code
what_takes step bytes x fits e =
    let b = bind_ok (byte_at bytes) (λ b. cond (b.0 == 0) (Ok (Failed, b.1)) (cond (b.0 == 1) (Ok (NoHead, b.1)) (cond (b.0 == 2 && is_lookup step) (Ok (BadActor, b.1)) (cond (b.0 == 3) (made_of Status status_at b.1) (Err (length bytes)))))) x e in
    let spelled = byte_is bytes b.0 b.1 in
    let status : Read What = cond (b.0.0 == 3) (made_of Status status_at b.0.1) (Err (length bytes)) in
    let bad_actor : Read What = cond (b.0.0 == 2 && is_lookup step) (Ok (BadActor, b.0.1)) status in
    let no_head : Read What = cond (b.0.0 == 1) (Ok (NoHead, b.0.1)) bad_actor in
    elim (choice_ok b.0.0 0 (Ok (Failed, b.0.1)) no_head x b.2) [
      | inl is ↦ said b.0.0 0 what_code (MayCome step) Failed bytes b.0.1 x refl tt spelled is.0 is.1
      | inr e ↦ elim (choice_ok b.0.0 1 (Ok (NoHead, b.0.1)) bad_actor x e) [
        | inl is ↦ said b.0.0 1 what_code (MayCome step) NoHead bytes b.0.1 x refl tt spelled is.0 is.1
        | inr e ↦ actor b.0.0 b.0.1 (b.0.0 == 2 && is_lookup step) refl spelled e
      ]
    ]
  where
    actor : (b : ℕ) (rest : List ℕ) (t : Bool) → (b == 2 && is_lookup step) ≡ t → bytes ≡ b ∷ rest
        → cond t (Ok (BadActor, rest)) (cond (b == 3) (made_of Status status_at rest) (Err (length bytes))) ≡ Ok x → (bytes ≡ what_code x.0 ++ x.1) × MayCome step x.0
    actor b rest true passes spelled e =
        let is = bad_actor_may_come step b passes in
        said b 2 what_code (MayCome step) BadActor bytes rest x refl is.1 spelled is.0 e
    actor b rest false fails spelled e =
        elim (choice_ok b 3 (made_of Status status_at rest) (Err (length bytes)) x e) [
          | inl is ↦ made_takes status_reads Status 3 what_code (MayCome step) (λ v. refl) (λ v valid. valid) bytes rest x fits (spelled ∙ ap (λ (n : ℕ). n ∷ rest) is.0) is.1
          | inr e ↦ absurd (cc e)
        ]

what_again : (step : Sent) (what : What) (rest : List ℕ) → MayCome step what → what_at step (what_code what ++ rest) ≡ Ok (what, rest)
unfolding what_at what_code byte_at
what_again step Failed rest valid = refl
what_again step NoHead rest valid = refl
what_again Lookup BadActor rest valid = refl
what_again Post BadActor rest valid = absurd valid
what_again step (Status status) rest valid = rw (status_reads.again status rest valid) refl

came_reads : Reads came_code (λ came. MayCome came.step came.what) came_at
unfolding came_at came_code
came_reads = record {
  takes = λ bytes x fits e.
      let s = bind_ok (sent_at bytes) (λ s. what_at s.0 s.1 >>= λ w. Ok (came s.0 w.0, w.1)) x e in
      let w = bind_ok (what_at s.0.0 s.0.1) (λ w. Ok (came s.0.0 w.0, w.1)) x s.2 in
      let one = sent_reads.takes bytes s.0 fits s.1 in
      let two = what_takes s.0.0 s.0.1 w.0 (bytes_behind (sent_code s.0.0) s.0.1 bytes one.0 fits) w.1 in
      let same : (came s.0.0 w.0.0, w.0.1) ≡ x = cc w.2 in
      subst (λ (y : Came × List ℕ). (bytes ≡ came_code y.0 ++ y.1) × MayCome y.0.step y.0.what) same
      (one.0 ∙ ap (λ (l : List ℕ). sent_number s.0.0 ∷ l) two.0, two.1);
  again = λ c rest valid. rw (sent_reads.again c.step (what_code c.what ++ rest) tt, what_again c.step c.what rest valid) refl;
}
  where
    came : Sent → What → Came
    came step what = record { step = step; what = what }

-- ---- entries

domain_short : (t : List ℕ) → IsTrue (is_domain t) → length t ≤ 253
domain_short t passes = grind (arith, nat_tests)

port_short : (t : List ℕ) → IsTrue (is_port t) → length t ≤ 5
port_short t passes = grind (arith, nat_tests)

-- the part before the first colon, the colon and the part after it
length_by_colon : (t : List ℕ) → length t ≤ length (before_first is_colon t) + (1 + length (after_first is_colon t))
length_by_colon t =
    elim (cases_lt (position_or_len is_colon t) (length t)) [
      | inl lt ↦ omega (arith, ap length (split_at_first is_colon t 0 lt), length-append (before_first is_colon t) (get_or t (position_or_len is_colon t) 0 ∷ after_first is_colon t))
      | inr le ↦ omega (arith, le, length-take (position_or_len is_colon t) t)
    ]

host_bound : (t : List ℕ) → IsTrue (is_host_text t) → length t < 2 ^ 32
host_bound t passes =
    elim (or_cases (is_domain t) (is_domain_and_port t) passes) [
      | inl domain ↦ omega (arith, domain_short t domain)
      | inr both ↦
          let parts = and_parts (is_domain (before_first is_colon t)) (is_port (after_first is_colon t)) both in
          omega (arith, length_by_colon t, domain_short (before_first is_colon t) parts.0, port_short (after_first is_colon t) parts.1)
    ]

host_short : (t : List ℕ) → IsTrue (is_host t) → length t < 2 ^ 32
unfolding is_host
host_short t passes =
    host_bound t (and_parts (is_host_text t) (is_own (normal (address t (codes "/"))) (address t (codes "/"))) passes).0

host_reads : Reads text_code (IsText is_host) (text_at is_host)
host_reads = text_reads is_host host_short

hosted_reads : Reads (λ (p : List ℕ × ℕ). text_code p.0 ++ u64_code p.1) (λ (p : List ℕ × ℕ). IsText is_host p.0 × IsMoment p.1) (text_at is_host & moment_at)
hosted_reads = pair_reads host_reads moment_reads

made_reads : Reads (λ (p : List ℕ × (List ℕ × (Bool × ℕ))). text_code p.0 ++ (p.1.0 ++ (bool_code p.1.1.0 ++ u64_code p.1.1.1)))
    (λ (p : List ℕ × (List ℕ × (Bool × ℕ))). IsText is_name p.0 × (IsKey p.1.0 × (Unit {0} × IsMoment p.1.1.1))) (text_at is_name & bytes_at 32 & flag_at & moment_at)
made_reads = pair_reads name_reads (pair_reads (key_reads 32) (pair_reads flag_reads moment_reads))

peer_set_reads : Reads (λ (p : List ℕ × (List ℕ × (List ℕ × (Bool × ℕ)))). text_code p.0 ++ (p.1.0 ++ (text_code p.1.1.0 ++ (bool_code p.1.1.1.0 ++ u64_code p.1.1.1.1))))
    (λ (p : List ℕ × (List ℕ × (List ℕ × (Bool × ℕ)))). IsText is_host p.0 × (IsKey p.1.0 × (IsText is_address p.1.1.0 × (Unit {0} × IsMoment p.1.1.1.1))))
    (text_at is_host & bytes_at 32 & text_at is_address & flag_at & moment_at)
peer_set_reads = pair_reads host_reads (pair_reads (key_reads 32) (pair_reads address_reads (pair_reads flag_reads moment_reads)))

local_reads : Reads (λ (p : List ℕ × (Option (List ℕ × List ℕ) × (Activity × ℕ))). text_code p.0 ++ (option_code repeat_code p.1.0 ++ (activity_code p.1.1.0 ++ u64_code p.1.1.1)))
    (λ (p : List ℕ × (Option (List ℕ × List ℕ) × (Activity × ℕ))). IsText is_name p.0 × (IfSome p.1.0 IsRepeat × (IsActivity p.1.1.0 × IsMoment p.1.1.1)))
    (text_at is_name & option_at repeat_at & activity_at & moment_at)
local_reads = pair_reads name_reads (pair_reads (option_reads repeat_reads) (pair_reads activity_reads moment_reads))

remote_reads : Reads (λ (p : List ℕ × (List ℕ × (Activity × ℕ))). text_code p.0 ++ (text_code p.1.0 ++ (activity_code p.1.1.0 ++ u64_code p.1.1.1)))
    (λ (p : List ℕ × (List ℕ × (Activity × ℕ))). IsText is_host p.0 × (IsText is_name p.1.0 × (IsActivity p.1.1.0 × IsMoment p.1.1.1)))
    (text_at is_host & text_at is_name & activity_at & moment_at)
remote_reads = pair_reads host_reads (pair_reads name_reads (pair_reads activity_reads moment_reads))

tried_reads : Reads (λ (p : List ℕ × (List ℕ × (Came × ℕ))). text_code p.0 ++ (text_code p.1.0 ++ (came_code p.1.1.0 ++ u64_code p.1.1.1)))
    (λ (p : List ℕ × (List ℕ × (Came × ℕ))). IsText is_iri p.0 × (IsText is_iri p.1.0 × (MayCome p.1.1.0.step p.1.1.0.what × IsMoment p.1.1.1)))
    (iri_at & iri_at & came_at & moment_at)
tried_reads = pair_reads iri_reads (pair_reads iri_reads (pair_reads came_reads moment_reads))

entry_takes : (bytes : List ℕ) (x : Entry × List ℕ) → IsBytes bytes → entry_at bytes ≡ Ok x → (bytes ≡ code_of x.0 ++ x.1) × IsFormed x.0
unfolding entry_at hosted_at made_at peer_set_at local_at remote_at tried_at code_of fields_code IsFormed
entry_takes bytes x fits e =
    let b = bind_ok (byte_at bytes) (λ b. cond (b.0 == 1) (hosted_at b.1) (cond (b.0 == 2) (made_at b.1) (cond (b.0 == 3) (peer_set_at b.1) (cond (b.0 == 4) (local_at b.1) (cond (b.0 == 5) (remote_at b.1) (cond (b.0 == 6) (tried_at b.1) (Err (length bytes)))))))) x e in
    let spelled = byte_is bytes b.0 b.1 in
    let by : (n : ℕ) → b.0.0 ≡ n → bytes ≡ n ∷ b.0.1 = λ n is. spelled ∙ ap (λ (k : ℕ). k ∷ b.0.1) is in
    let none : Read Entry = Err (length bytes) in
    let tried : Read Entry = cond (b.0.0 == 6) (tried_at b.0.1) none in
    let remote : Read Entry = cond (b.0.0 == 5) (remote_at b.0.1) tried in
    let local : Read Entry = cond (b.0.0 == 4) (local_at b.0.1) remote in
    let peer_set : Read Entry = cond (b.0.0 == 3) (peer_set_at b.0.1) local in
    let made : Read Entry = cond (b.0.0 == 2) (made_at b.0.1) peer_set in
    elim (choice_ok b.0.0 1 (hosted_at b.0.1) made x b.2) [
      | inl is ↦ made_takes hosted_reads (λ p. Hosted p.0 p.1) 1 code_of IsFormed (λ p. refl) (λ p valid. valid) bytes b.0.1 x fits (by 1 is.0) is.1
      | inr e ↦ elim (choice_ok b.0.0 2 (made_at b.0.1) peer_set x e) [
        | inl is ↦ made_takes made_reads (λ p. Made p.0 p.1.0 p.1.1.0 p.1.1.1) 2 code_of IsFormed (λ p. refl) (λ p valid. (valid.0, (valid.1.0, valid.1.1.1))) bytes b.0.1 x fits (by 2 is.0) is.1
        | inr e ↦ elim (choice_ok b.0.0 3 (peer_set_at b.0.1) local x e) [
          | inl is ↦ made_takes peer_set_reads (λ p. PeerSet p.0 p.1.0 p.1.1.0 p.1.1.1.0 p.1.1.1.1) 3 code_of IsFormed (λ p. refl) (λ p valid. (valid.0, (valid.1.0, (valid.1.1.0, valid.1.1.1.1)))) bytes b.0.1 x fits (by 3 is.0) is.1
          | inr e ↦ elim (choice_ok b.0.0 4 (local_at b.0.1) remote x e) [
            | inl is ↦ made_takes local_reads (λ p. Local p.0 p.1.0 p.1.1.0 p.1.1.1) 4 code_of IsFormed (λ p. refl) (λ p valid. valid) bytes b.0.1 x fits (by 4 is.0) is.1
            | inr e ↦ elim (choice_ok b.0.0 5 (remote_at b.0.1) tried x e) [
              | inl is ↦ made_takes remote_reads (λ p. Remote p.0 p.1.0 p.1.1.0 p.1.1.1) 5 code_of IsFormed (λ p. refl) (λ p valid. valid) bytes b.0.1 x fits (by 5 is.0) is.1
              | inr e ↦ elim (choice_ok b.0.0 6 (tried_at b.0.1) none x e) [
                | inl is ↦ made_takes tried_reads (λ p. Tried p.0 p.1.0 p.1.1.0 p.1.1.1) 6 code_of IsFormed (λ p. refl) (λ p valid. valid) bytes b.0.1 x fits (by 6 is.0) is.1
                | inr e ↦ absurd (cc e)
              ]
            ]
          ]
        ]
      ]
    ]

entry_again : (entry : Entry) (rest : List ℕ) → IsFormed entry → entry_at (code_of entry ++ rest) ≡ Ok (entry, rest)
unfolding entry_at hosted_at made_at peer_set_at local_at remote_at tried_at byte_at code_of fields_code IsFormed
entry_again (Hosted host moment) rest valid = rw (hosted_reads.again (host, moment) rest valid) refl
entry_again (Made name digest locked moment) rest valid =
    rw (made_reads.again (name, (digest, (locked, moment))) rest (valid.0, (valid.1.0, (tt, valid.1.1)))) refl
entry_again (PeerSet host key address relay moment) rest valid =
    rw (peer_set_reads.again (host, (key, (address, (relay, moment)))) rest (valid.0, (valid.1.0, (valid.1.1.0, (tt, valid.1.1.1))))) refl
entry_again (Local name repeat activity moment) rest valid = rw (local_reads.again (name, (repeat, (activity, moment))) rest valid) refl
entry_again (Remote peer inbox activity moment) rest valid = rw (remote_reads.again (peer, (inbox, (activity, moment))) rest valid) refl
entry_again (Tried activity recipient came moment) rest valid = rw (tried_reads.again (activity, (recipient, (came, moment))) rest valid) refl

pub entry_reads : Reads code_of IsFormed entry_at
entry_reads = record { takes = entry_takes; again = entry_again }

-- ---- the whole

ended_ok : (read : Entry × List ℕ) (entry : Entry) → ended read ≡ Ok entry → read ≡ (entry, [])
ended_ok (e, []) entry h = let same : e ≡ entry = cc h in ap (λ (x : Entry). (x, [])) same
ended_ok (e, b ∷ rest) entry h =
    absurd (grind (arith, nat_tests, (passed_ok (length (b ∷ rest) == 0) (length (b ∷ rest)) e entry h).0))

placed_ok : (n : ℕ) (r : Result Entry ℕ) (entry : Entry) → placed n r ≡ Ok entry → r ≡ Ok entry
placed_ok n (Ok e) entry h = let same : e ≡ entry = cc h in ap Ok same
placed_ok n (Err left) entry h = absurd (cc h)

-- the bytes that are read are the code
pub last_takes : (bytes : List ℕ) (entry : Entry) → IsBytes bytes → last_at bytes ≡ Ok entry → (code_of entry ≡ bytes) × IsFormed entry
unfolding last_at
last_takes bytes entry fits e =
    let a = bind_ok (entry_at bytes) ended entry e in
    let one = entry_takes bytes a.0 fits a.1 in
    let same = ended_ok a.0 entry a.2 in
    let both = subst (λ (y : Entry × List ℕ). (bytes ≡ code_of y.0 ++ y.1) × IsFormed y.0) same one in
    (sym (both.0 ∙ append-nil (code_of entry)), both.1)

-- a code is read again
pub last_again : (entry : Entry) → IsFormed entry → last_at (code_of entry) ≡ Ok entry
unfolding last_at
last_again entry formed = ap last_at (sym (append-nil (code_of entry))) ∙ rw (entry_again entry [] formed) refl

-- the same for bytes that are equal to a code
pub last_is : (entry : Entry) (bytes : List ℕ) → IsFormed entry → code_of entry ≡ bytes → last_at bytes ≡ Ok entry
last_is entry bytes formed is = ap last_at (sym is) ∙ last_again entry formed

pub same_entry : (read : Result Entry ℕ) (a b : Entry) → read ≡ Ok a → read ≡ Ok b → a ≡ b
same_entry read a b is_a is_b = let same : ◌≡◌ {A = Result Entry ℕ} (Ok a) (Ok b) = sym is_a ∙ is_b in cc same

pub not_read : (read : Result Entry ℕ) (entry : Entry) (fault : ReadFault) (left : ℕ) → fault ≡ BadField left → Fails fault read → read ≡ Ok entry → ⊥
not_read read entry fault left is fails reads =
    let stops : read ≡ Err left = subst (λ (f : ReadFault). Fails f read) is fails in
    let same : ◌≡◌ {A = Result Entry ℕ} (Ok entry) (Err left) = sym reads ∙ stops in
    absurd (cc same)

-- ---- the laws

pub whole_takes : (bytes : List ℕ) (entry : Entry) → IsBytes bytes → read_entry bytes ≡ Ok entry → (code_of entry ≡ bytes) × IsFormed entry
unfolding read_entry
whole_takes bytes entry fits e = last_takes bytes entry fits (placed_ok (length bytes) (last_at bytes) entry e)

pub whole_again : (entry : Entry) → IsFormed entry → read_entry (code_of entry) ≡ Ok entry
unfolding read_entry
whole_again entry formed = ap (placed (length (code_of entry))) (last_again entry formed)

-- a code is never a proper prefix of another
pub code_is_no_front : (a b : Entry) (rest : List ℕ) → IsFormed a → IsFormed b → code_of a ++ rest ≡ code_of b → (a ≡ b) × (rest ≡ [])
code_is_no_front a b rest formed_a formed_b e =
    let read_a = entry_again a rest formed_a in
    let read_b = entry_again b [] formed_b in
    let same : ◌≡◌ {A = Result (Entry × List ℕ) ℕ} (Ok (a, rest)) (Ok (b, [])) = sym read_a ∙ (ap entry_at (e ∙ sym (append-nil (code_of b))) ∙ read_b) in
    let pair : (a, rest) ≡ (b, []) = cc same in
    (ap (λ (p : Entry × List ℕ). p.0) pair, ap (λ (p : Entry × List ℕ). p.1) pair)
