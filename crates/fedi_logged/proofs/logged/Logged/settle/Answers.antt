use Rattle.std.proofs.Common.{◌≡◌, ◌∙◌, ap, arith, append-nil, None, Ok, Option, refl, Some, subst, sym, List, ℕ}
use Rattle.fedi_core.specs.Drafts.{reply_in}
use Rattle.fedi_core.specs.declared.drafts.Draft.TheVariants.{Ready}
use Rattle.fedi_core.specs.declared.keeping.KeepFault.TheVariants as faults
use Rattle.fedi_entry.specs.Codes.{code_of}
use Rattle.fedi_log.specs.Log.{Failed, Full, Kept, NoEntry}
use Rattle.fedi_log.specs.declared.items.What.TheVariants.{Entered, Marked}
use Rattle.fedi_model.specs.Refusing.{refused}
use Rattle.fedi_model.specs.ReplyText.{reply_text}
use Rattle.fedi_model.specs.declared.reply.Reply.{Reply}
use Rattle.fedi_model.specs.Routes.{IsPostableAt}
use Rattle.fedi_town.specs.declared.refusal.Refusal.TheVariants.{JournalFull, KeeperFault}
use Rattle.fedi_logged.specs.Turning.{text_in}
use Rattle.fedi_logged.specs.Turns.{Standing, standing_by}
use Rattle.fedi_logged.specs.declared.answered.Answered.TheVariants.{Draft}
use Rattle.fedi_town.specs.Histories.{town}
use Rattle.fedi_effects.specs.Rosters.{callers_in}
use Rattle.fedi_objects.specs.declared.entry.Entry.{Entry}
use Rattle.fedi_logged.proofs.Callers.{callers_known, callers_stay, settled}
use Rattle.fedi_logged.proofs.Claiming.{claiming_kept, claiming_marked, claiming_same}
use Rattle.fedi_logged.proofs.Noting.{entered, length_more, marked}
use Rattle.fedi_logged.proofs.Replying.{IsDecided, decided, failed_reply, full_reply, kept_reply, read_reply, refuses_by}
use Rattle.fedi_logged.proofs.Standing.{stands_host, stands_more}
use Rattle.fedi_logged.proofs.Telling.{tells, turned}
use Rattle.fedi_logged.proofs.Turning.{failed_turn_by, full_turn_by, kept_turn, memory_turn_by}
use Rattle.fedi_logged.proofs.Untried.{untried}
use Rattle.fedi_logged.proofs.logged.Logged.settle.Goals as goal

pub decide-requires : goal.decide-requires
decide-requires g c = record {
  postable = subst (λ (h : Option (List ℕ)). IsPostableAt h c.args.ask) (sym (stands_host _ _ _ _ _ _ _ c.self.invariant.1 c.requires.hosted)) c.requires.postable;
}

pub returns-in_default-clause-text : goal.returns-in_default-clause-text
returns-in_default-clause-text g c =
    let was : Standing = standing_by g.P.Keeper.shown g.P.Keeper.crashes c.self.inside.core in
    let stands = c.self.invariant.1 in
    let same = ap (λ m. m.log) c.self.view_is in
    let known = callers_known g.O.Opened.state.history was.state.history c.args.request.now c.args.body.now (Ok c.args.caller.now) c.self.invariant.3 c.requires.caller in
    let e = c.in_ok-draft.ensures in
    let y = c.in_ok-draft.entry-is in
    let z = c.in_default.is in
    let n : c.in_ok-draft.field-0.entry ≡ None = cc in
    let host = stands_host _ _ _ _ _ _ _ stands c.requires.hosted in
    let d : IsDecided was.state c.args.moment c.args.request.now c.args.body.now c.args.caller.now c.args.ask (reply_in c.in_ok-draft.field-0.draft) (None) =
    decided _ _ c.args.request.now c.args.body.now c.args.caller.now c.args.ask (reply_in c.in_ok-draft.field-0.draft) _ _ _ known (sym host) c.requires.asks e.reply e.entry e.private n in
    tells g.P.Keeper.growth g.P.Keeper.room g.O.Opened.state was.state c.args.by _ _ _ c.args.moment c.args.request.now c.args.body.now c.args.closing NoEntry (reply_in c.in_ok-draft.field-0.draft)
    (text_in c.args.moment c.args.request.now.head_only c.args.closing (Draft c.in_ok-draft.field-0.draft))
    same stands.holds (read_reply g.P.Keeper.room was.state c.args.moment c.args.request.now c.args.body.now c.args.caller.now c.args.ask (reply_in c.in_ok-draft.field-0.draft) d)
    (sym same ∙ sym (append-nil _)) refl

pub returns-in_default-clause-draft : goal.returns-in_default-clause-draft
returns-in_default-clause-draft g c = λ left. refl

pub invariant_of-self : goal.invariant_of-self
invariant_of-self g c =
    let was : Standing = standing_by g.P.Keeper.shown g.P.Keeper.crashes c.self.inside.core in
    let now : Standing = standing_by g.P.Keeper.shown g.P.Keeper.crashes c.keep.new.self in
    let log = entered g.O.Opened.state.history c.self.inside.noted c.push.new.self _ _ c.in-Some.entry c.args.by c.push.ensures refl refl (ap Entered c.of-made.ensures) in
    let turn = kept_turn g.P.Keeper.growth g.P.Keeper.room was now c.in-Some.entry c.in-Ok.ensures.keeps.kept c.in-Ok.ensures.keeps.time in
    let y = c.in_ok-draft.entry-is in
    let z = c.in-Some.is in
    let is : c.in_ok-draft.field-0.entry ≡ Some c.in-Some.entry = cc in
    let made = sym c.in_ok-draft.ensures.entry ∙ is in (
      length_more _ _ _ c.self.inside.front log c.self.invariant.0,
      stands_more g.P.Keeper.growth g.P.Keeper.room g.O.Opened.state g.O.Opened.crashes c.args.by was now _ _ (Kept c.in-Some.entry) c.self.invariant.1 c.in-Ok.ensures.keeps.legal turn log,
      claiming_kept c.self.inside.core.history c.keep.new.self.history c.in-Some.entry c.args.by c.self.inside.core.rows c.keep.new.self.rows _ _ c.self.inside.front c.self.inside.claimed
          c.in-Ok.ensures.keeps.kept.history c.in-Ok.ensures.queue (untried (town c.self.inside.core.history) c.args.caller.now c.args.ask c.args.moment c.in-Some.entry made)
          c.in-Ok.ensures.keeps.claims log (let other = c.if-self.false in let room = c.self.invariant.2.room in omega (arith, other, room)) c.self.invariant.2,
      callers_stay c.self.inside.core.history c.keep.new.self.history c.in-Some.entry (settled (town c.self.inside.core.history) c.args.caller.now c.args.ask c.args.moment c.in-Some.entry made) c.in-Ok.ensures.keeps.kept.history ∙ c.self.invariant.3,
    )

pub returns-in-Ok-clause-text : goal.returns-in-Ok-clause-text
returns-in-Ok-clause-text g c =
    let was : Standing = standing_by g.P.Keeper.shown g.P.Keeper.crashes c.self.inside.core in
    let now : Standing = standing_by g.P.Keeper.shown g.P.Keeper.crashes c.keep.new.self in
    let stands = c.self.invariant.1 in
    let known = callers_known g.O.Opened.state.history was.state.history c.args.request.now c.args.body.now (Ok c.args.caller.now) c.self.invariant.3 c.requires.caller in
    let e = c.in_ok-draft.ensures in
    let y = c.in_ok-draft.entry-is in
    let z = c.in-Some.is in
    let n : c.in_ok-draft.field-0.entry ≡ Some c.in-Some.entry = cc in
    let host = stands_host _ _ _ _ _ _ _ stands c.requires.hosted in
    let d : IsDecided was.state c.args.moment c.args.request.now c.args.body.now c.args.caller.now c.args.ask (reply_in c.in_ok-draft.field-0.draft) (Some c.in-Some.entry) =
    decided _ _ c.args.request.now c.args.body.now c.args.caller.now c.args.ask (reply_in c.in_ok-draft.field-0.draft) _ _ _ known (sym host) c.requires.asks e.reply e.entry e.private n in
    let log = entered g.O.Opened.state.history c.self.inside.noted c.push.new.self _ _ c.in-Some.entry c.args.by c.push.ensures refl refl (ap Entered c.of-made.ensures) in
    tells g.P.Keeper.growth g.P.Keeper.room g.O.Opened.state was.state c.args.by _ _ _ c.args.moment c.args.request.now c.args.body.now c.args.closing (Kept c.in-Some.entry) (reply_in c.in_ok-draft.field-0.draft) c.in_ok-text.text.items
    (ap (λ m. m.log) c.self.view_is) stands.holds
    (kept_reply g.P.Keeper.growth g.P.Keeper.room was.state now.state c.args.moment c.args.request.now c.args.body.now c.args.caller.now c.args.ask
    (reply_in c.in_ok-draft.field-0.draft) c.in-Some.entry d c.in-Ok.ensures.keeps.kept) log
    (c.in_ok-text.ensures ∙ ap (λ (r : Reply). reply_text c.args.moment c.args.request.now.head_only c.args.closing r) c.in_ok-reply.ensures.reply)

pub returns-in-Ok-clause-turn : goal.returns-in-Ok-clause-turn
returns-in-Ok-clause-turn g c =
    let was : Standing = standing_by g.P.Keeper.shown g.P.Keeper.crashes c.self.inside.core in
    let now : Standing = standing_by g.P.Keeper.shown g.P.Keeper.crashes c.keep.new.self in
    let log = entered g.O.Opened.state.history c.self.inside.noted c.push.new.self _ _ c.in-Some.entry c.args.by c.push.ensures refl refl (ap Entered c.of-made.ensures) in
    let turn = kept_turn g.P.Keeper.growth g.P.Keeper.room was now c.in-Some.entry c.in-Ok.ensures.keeps.kept c.in-Ok.ensures.keeps.time in
    turned g.P.Keeper.growth c.args.by g.P.Keeper.shown g.P.Keeper.crashes _ _ c.keep.new.self _ c.self.view_is (Kept c.in-Some.entry, turn, log)

pub invariant_of-self-in-Full : goal.invariant_of-self-in-Full
invariant_of-self-in-Full g c =
    let was : Standing = standing_by g.P.Keeper.shown g.P.Keeper.crashes c.self.inside.core in
    let now : Standing = standing_by g.P.Keeper.shown g.P.Keeper.crashes c.keep.new.self in
    let turn = full_turn_by g.P.Keeper.growth g.P.Keeper.room was now c.in-Some.entry c.in-Err.field-0.fault c.in-Full.is c.in-Err.ensures.keeps.same c.in-Err.ensures.keeps.refused c.in-Err.ensures.keeps.time_refused in (
      c.self.invariant.0,
      stands_more g.P.Keeper.growth g.P.Keeper.room g.O.Opened.state g.O.Opened.crashes c.args.by was now _ _ (Full c.in-Some.entry) c.self.invariant.1 c.in-Err.ensures.keeps.legal turn (sym (append-nil _)),
      claiming_same c.self.inside.core.history c.keep.new.self.history c.self.inside.core.rows c.keep.new.self.rows _ c.self.inside.front c.self.inside.claimed c.in-Err.ensures.keeps.same c.in-Err.ensures.rows c.self.invariant.2,
      ap (λ (h : List Entry). callers_in (town h)) c.in-Err.ensures.keeps.same ∙ c.self.invariant.3,
    )

pub returns-in-Full-clause-text : goal.returns-in-Full-clause-text
returns-in-Full-clause-text g c =
    let was : Standing = standing_by g.P.Keeper.shown g.P.Keeper.crashes c.self.inside.core in
    let now : Standing = standing_by g.P.Keeper.shown g.P.Keeper.crashes c.keep.new.self in
    let stands = c.self.invariant.1 in
    let same = ap (λ m. m.log) c.self.view_is in
    let known = callers_known g.O.Opened.state.history was.state.history c.args.request.now c.args.body.now (Ok c.args.caller.now) c.self.invariant.3 c.requires.caller in
    let e = c.in_ok-draft.ensures in
    let y = c.in_ok-draft.entry-is in
    let z = c.in-Some.is in
    let n : c.in_ok-draft.field-0.entry ≡ Some c.in-Some.entry = cc in
    let host = stands_host _ _ _ _ _ _ _ stands c.requires.hosted in
    let d : IsDecided was.state c.args.moment c.args.request.now c.args.body.now c.args.caller.now c.args.ask (reply_in c.in_ok-draft.field-0.draft) (Some c.in-Some.entry) =
    decided _ _ c.args.request.now c.args.body.now c.args.caller.now c.args.ask (reply_in c.in_ok-draft.field-0.draft) _ _ _ known (sym host) c.requires.asks e.reply e.entry e.private n in
    let k = refuses_by g.P.Keeper.room (code_of c.in-Some.entry) c.in-Err.field-0.fault faults.Full _ _ c.in-Full.is c.in-Err.ensures.keeps.refused in
    tells g.P.Keeper.growth g.P.Keeper.room g.O.Opened.state was.state c.args.by _ _ _ c.args.moment c.args.request.now c.args.body.now c.args.closing (Full c.in-Some.entry) (refused JournalFull)
    (text_in c.args.moment c.args.request.now.head_only c.args.closing (Draft (Ready c.refusal_reply-full.result)))
    same stands.holds
    (full_reply g.P.Keeper.room was.state now.state c.args.moment c.args.request.now c.args.body.now c.args.caller.now c.args.ask
    (reply_in c.in_ok-draft.field-0.draft) c.in-Some.entry d k) (sym (append-nil _))
    (ap (λ (r : Reply). reply_text c.args.moment c.args.request.now.head_only c.args.closing r) c.refusal_reply-full.ensures)

pub returns-in-Full-clause-draft : goal.returns-in-Full-clause-draft
returns-in-Full-clause-draft g c = λ left. ap (λ m. m.log) c.self.view_is

pub returns-in-Full-clause-turn : goal.returns-in-Full-clause-turn
returns-in-Full-clause-turn g c =
    let was : Standing = standing_by g.P.Keeper.shown g.P.Keeper.crashes c.self.inside.core in
    let now : Standing = standing_by g.P.Keeper.shown g.P.Keeper.crashes c.keep.new.self in
    let turn = full_turn_by g.P.Keeper.growth g.P.Keeper.room was now c.in-Some.entry c.in-Err.field-0.fault c.in-Full.is c.in-Err.ensures.keeps.same c.in-Err.ensures.keeps.refused c.in-Err.ensures.keeps.time_refused in
    turned g.P.Keeper.growth c.args.by g.P.Keeper.shown g.P.Keeper.crashes _ _ c.keep.new.self _ c.self.view_is (Full c.in-Some.entry, turn, sym (append-nil _))

pub invariant_of-self-in-Failed : goal.invariant_of-self-in-Failed
invariant_of-self-in-Failed g c =
    let was : Standing = standing_by g.P.Keeper.shown g.P.Keeper.crashes c.self.inside.core in
    let now : Standing = standing_by g.P.Keeper.shown g.P.Keeper.crashes c.keep.new.self in
    let log = marked g.O.Opened.state.history c.self.inside.noted c.push-in-Failed.new.self _ _ c.in-Some.entry c.args.by c.push-in-Failed.ensures refl refl (ap Marked c.of-made.ensures) in
    let turn = failed_turn_by g.P.Keeper.growth g.P.Keeper.room was now c.in-Some.entry c.in-Err.field-0.fault c.in-Failed.is c.in-Err.ensures.keeps.same (c.in-Err.ensures.keeps.next c.in-Failed.is) c.in-Err.ensures.keeps.refused c.in-Err.ensures.keeps.time_refused in
    let y = c.in_ok-draft.entry-is in
    let z = c.in-Some.is in
    let is : c.in_ok-draft.field-0.entry ≡ Some c.in-Some.entry = cc in
    let made = sym c.in_ok-draft.ensures.entry ∙ is in (
      length_more _ _ _ c.self.inside.front log c.self.invariant.0,
      stands_more g.P.Keeper.growth g.P.Keeper.room g.O.Opened.state g.O.Opened.crashes c.args.by was now _ _ (Failed c.in-Some.entry) c.self.invariant.1 c.in-Err.ensures.keeps.legal turn log,
      claiming_marked c.self.inside.core.history c.keep.new.self.history c.in-Some.entry c.args.by c.self.inside.core.rows c.keep.new.self.rows _ _ c.self.inside.front c.self.inside.claimed
          c.in-Err.ensures.keeps.same c.in-Err.ensures.rows (untried (town c.self.inside.core.history) c.args.caller.now c.args.ask c.args.moment c.in-Some.entry made)
          log (let other = c.if-self.false in let room = c.self.invariant.2.room in omega (arith, other, room)) c.self.invariant.2,
      ap (λ (h : List Entry). callers_in (town h)) c.in-Err.ensures.keeps.same ∙ c.self.invariant.3,
    )

pub returns-in-Failed-clause-text : goal.returns-in-Failed-clause-text
returns-in-Failed-clause-text g c =
    let was : Standing = standing_by g.P.Keeper.shown g.P.Keeper.crashes c.self.inside.core in
    let now : Standing = standing_by g.P.Keeper.shown g.P.Keeper.crashes c.keep.new.self in
    let stands = c.self.invariant.1 in
    let known = callers_known g.O.Opened.state.history was.state.history c.args.request.now c.args.body.now (Ok c.args.caller.now) c.self.invariant.3 c.requires.caller in
    let e = c.in_ok-draft.ensures in
    let y = c.in_ok-draft.entry-is in
    let z = c.in-Some.is in
    let n : c.in_ok-draft.field-0.entry ≡ Some c.in-Some.entry = cc in
    let host = stands_host _ _ _ _ _ _ _ stands c.requires.hosted in
    let d : IsDecided was.state c.args.moment c.args.request.now c.args.body.now c.args.caller.now c.args.ask (reply_in c.in_ok-draft.field-0.draft) (Some c.in-Some.entry) =
    decided _ _ c.args.request.now c.args.body.now c.args.caller.now c.args.ask (reply_in c.in_ok-draft.field-0.draft) _ _ _ known (sym host) c.requires.asks e.reply e.entry e.private n in
    let log = marked g.O.Opened.state.history c.self.inside.noted c.push-in-Failed.new.self _ _ c.in-Some.entry c.args.by c.push-in-Failed.ensures refl refl (ap Marked c.of-made.ensures) in
    let k = refuses_by g.P.Keeper.room (code_of c.in-Some.entry) c.in-Err.field-0.fault faults.Failed _ _ c.in-Failed.is c.in-Err.ensures.keeps.refused in
    tells g.P.Keeper.growth g.P.Keeper.room g.O.Opened.state was.state c.args.by _ _ _ c.args.moment c.args.request.now c.args.body.now c.args.closing (Failed c.in-Some.entry) (refused KeeperFault) c.in_ok-fault_text.fault_text.items
    (ap (λ m. m.log) c.self.view_is) stands.holds
    (failed_reply g.P.Keeper.room was.state c.args.moment c.args.request.now c.args.body.now c.args.caller.now c.args.ask
    (reply_in c.in_ok-draft.field-0.draft) c.in-Some.entry now.state d k) log c.in_ok-fault_text.ensures

pub returns-in-Failed-clause-turn : goal.returns-in-Failed-clause-turn
returns-in-Failed-clause-turn g c =
    let was : Standing = standing_by g.P.Keeper.shown g.P.Keeper.crashes c.self.inside.core in
    let now : Standing = standing_by g.P.Keeper.shown g.P.Keeper.crashes c.keep.new.self in
    let log = marked g.O.Opened.state.history c.self.inside.noted c.push-in-Failed.new.self _ _ c.in-Some.entry c.args.by c.push-in-Failed.ensures refl refl (ap Marked c.of-made.ensures) in
    let turn = failed_turn_by g.P.Keeper.growth g.P.Keeper.room was now c.in-Some.entry c.in-Err.field-0.fault c.in-Failed.is c.in-Err.ensures.keeps.same (c.in-Err.ensures.keeps.next c.in-Failed.is) c.in-Err.ensures.keeps.refused c.in-Err.ensures.keeps.time_refused in
    turned g.P.Keeper.growth c.args.by g.P.Keeper.shown g.P.Keeper.crashes _ _ c.keep.new.self _ c.self.view_is (Failed c.in-Some.entry, turn, log)

pub invariant_of-self-in-Memory : goal.invariant_of-self-in-Memory
invariant_of-self-in-Memory g c =
    let was : Standing = standing_by g.P.Keeper.shown g.P.Keeper.crashes c.self.inside.core in
    let now : Standing = standing_by g.P.Keeper.shown g.P.Keeper.crashes c.keep.new.self in
    let turn = memory_turn_by g.P.Keeper.growth g.P.Keeper.room was now c.in-Some.entry c.in-Err.field-0.fault c.in-Memory.is c.in-Err.ensures.keeps.same c.in-Err.ensures.keeps.refused c.in-Err.ensures.keeps.time_refused in (
      c.self.invariant.0,
      stands_more g.P.Keeper.growth g.P.Keeper.room g.O.Opened.state g.O.Opened.crashes c.args.by was now _ _ NoEntry c.self.invariant.1 c.in-Err.ensures.keeps.legal turn (sym (append-nil _)),
      claiming_same c.self.inside.core.history c.keep.new.self.history c.self.inside.core.rows c.keep.new.self.rows _ c.self.inside.front c.self.inside.claimed c.in-Err.ensures.keeps.same c.in-Err.ensures.rows c.self.invariant.2,
      ap (λ (h : List Entry). callers_in (town h)) c.in-Err.ensures.keeps.same ∙ c.self.invariant.3,
    )

pub returns-clause-turn : goal.returns-clause-turn
returns-clause-turn g c =
    let was : Standing = standing_by g.P.Keeper.shown g.P.Keeper.crashes c.self.inside.core in
    let now : Standing = standing_by g.P.Keeper.shown g.P.Keeper.crashes c.keep.new.self in
    let turn = memory_turn_by g.P.Keeper.growth g.P.Keeper.room was now c.in-Some.entry c.in-Err.field-0.fault c.in-Memory.is c.in-Err.ensures.keeps.same c.in-Err.ensures.keeps.refused c.in-Err.ensures.keeps.time_refused in
    turned g.P.Keeper.growth c.args.by g.P.Keeper.shown g.P.Keeper.crashes _ _ c.keep.new.self _ c.self.view_is (NoEntry, turn, sym (append-nil _))
