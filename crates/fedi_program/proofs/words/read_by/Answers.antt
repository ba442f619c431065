use Rattle.std.proofs.Common.{map, sym, ◌∙◌, arith, string_bytes}
use Rattle.std.proofs.lemmas.List.{map-append}
use Rattle.std.proofs.lemmas.Grind.{common_steps}
use Rattle.fedi_program.specs.Commands.{row_by}
use Rattle.fedi_program.proofs.WordLemmas.{all_read, flag_first, flag_twice, more_positions, next_word, no_position, none_left, position_next, too_long, too_short}
use Rattle.fedi_program.proofs.words.read_by.Goals as goal
use Rattle.fedi_program.proofs.words.read_by.Goals.{else-is_position-via-then-is_position+else-len-row, else-is_position-via-else-is_position, then-is_flag+else-flagged, else-is_flag+then-is_position+then-len-row}

pub returns-then-flagged : goal.returns-then-flagged
returns-then-flagged c = λ name.
    let next = next_word string_bytes c.args.words.now c.loop-word.word-index c.word-item.result c.as_str-word.result.now c.loop-word-test.true c.word-item.is c.as_str-word.ensures.value in
    sym (flag_twice (row_by name c.args.row) _ _ _ _ _ next c.if-flagged.true (sym c.is_flag.ensures ∙ c.if-is_flag.true)) ∙ c.loop-word.invariant.left name

pub returns-else-is_position : goal.returns-else-is_position
returns-else-is_position c = λ name.
    let next = next_word string_bytes c.args.words.now c.loop-word.word-index c.word-item.result c.as_str-word.result.now c.loop-word-test.true c.word-item.is c.as_str-word.ensures.value in
    elim c.else-is_position.branch [
      | else-is_position-via-then-is_position+else-len-row w ↦
          sym (too_long (row_by name c.args.row) _ _ _ _ _ next (sym c.is_flag.ensures ∙ c.if-is_flag.false) (grind (arith, common_steps))) ∙ c.loop-word.invariant.left name
      | else-is_position-via-else-is_position w ↦
          sym (no_position (row_by name c.args.row) _ _ _ _ _ next (sym c.is_flag.ensures ∙ c.if-is_flag.false) (sym c.is_position.ensures ∙ w.if-is_position.false)) ∙ c.loop-word.invariant.left name
    ]

pub loop-word-preserved : goal.loop-word-preserved
loop-word-preserved c =
    let next = next_word string_bytes c.args.words.now c.loop-word.word-index c.word-item.result c.as_str-word.result.now c.loop-word-test.true c.word-item.is c.as_str-word.ensures.value in
    elim c.if-is_flag.branch [
      | then-is_flag+else-flagged w ↦ record {
        left = λ name. rw (w.positions-is, w.flagged-is)
            (sym (flag_first (row_by name c.args.row) _ _ _ _ _ next w.if-flagged.false (sym c.is_flag.ensures ∙ w.if-is_flag.true)) ∙ c.loop-word.invariant.left name);
        positions = rw w.positions-is c.loop-word.invariant.positions;
        room = rw w.positions-is c.loop-word.invariant.room;
      }
      | else-is_flag+then-is_position+then-len-row w ↦ record {
        left = λ name. rw (w.positions-is, w.flagged-is, w.push.ensures.items, map-append)
            (sym (position_next (row_by name c.args.row) _ _ _ _ _ next (sym c.is_flag.ensures ∙ w.if-is_flag.false)) ∙ c.loop-word.invariant.left name);
        positions = rw (w.positions-is, w.push.ensures.items) (more_positions (λ p. p.now) c.loop-word.positions.items c.as_str-word.result c.loop-word.invariant.positions (sym w.is_position.ensures ∙ w.if-is_position.true));
        room = rw (w.positions-is, w.push.ensures.items) (grind (arith, common_steps));
      }
    ]

pub returns-then-len-row-2 : goal.returns-then-len-row-2
returns-then-len-row-2 c = λ name.
    let left = none_left string_bytes c.args.words.now c.loop-word.word-index c.loop-word-test.false in
    sym (too_short (row_by name c.args.row) (map (λ p. p.now) c.loop-word.positions.items) c.loop-word.flagged (grind (arith, common_steps))) ∙ rw left at c.loop-word.invariant.left name

pub returns : goal.returns
returns c = λ name.
    let left = none_left string_bytes c.args.words.now c.loop-word.word-index c.loop-word-test.false in
    sym (all_read (row_by name c.args.row) (map (λ p. p.now) c.loop-word.positions.items) c.loop-word.flagged (grind (arith, common_steps)) c.loop-word.invariant.positions)
    ∙ rw left at c.loop-word.invariant.left name
