-- A second run of lent calls, on one shaper from a new one on: rows, texts and refusals, with the Rust's answers.
-- Shape, output bytes, numbers, columns and text states are the Rust's, quoted in the form of docs/REPLAY.md; array places past a count or a length
-- stand in no answer.
use Prim.Native.Nat.{ℕ, zero, suc}
use mathlib.Core.Path.{refl, sym}
use mathlib.Core.Bool.{true, false, false≢true}
use mathlib.Core.List.{List, [], ◌∷◌, ◌++◌}
use native.Mathlib.Omega.{arith}
use lib.ListN.{replicate}
use Rattle.std.specs.Prelude.{Some}
use Rattle.column.specs.declared.Column.TheVariants as column
use Rattle.render.specs.declared.render.Ancestor.{Ancestor}
use Rattle.render.specs.declared.render.Ancestor.TheVariants as entry
use Rattle.render.specs.declared.render.Entry.{Entry}
use Rattle.render.specs.declared.render.NodeLine.TheVariants as node
use Rattle.render.specs.declared.render.PadLine.TheVariants as pad
use Rattle.render.specs.declared.types.RowShape.{RowShape}
use Rattle.render.specs.Lines.{blank_cell}
use Rattle.render.specs.Link.{joined}
use Rattle.render.specs.Refusals.{too_many_entries, output_shorter_than_lines}
use Rattle.shaper.specs.declared.Shaper.{Shaper}
use Rattle.shaper.specs.Shaper.{fresh}
use Rattle.placing.specs.Placing.{place}
use Rattle.row_shape.specs.Row.{no_shape, row}
use Rattle.glyphs.specs.declared.Renderer.TheVariants.{Ascii}
use Rattle.glyphs.specs.Cells.{choice_of, bytes_of}
use Rattle.glyphs.specs.Marks.{vert_parent, left_fork_ancestor, right_merge_ancestor, child}
use Rattle.output.specs.declared.TextState.{TextState}
use Rattle.output.specs.Measure.{measure_of}
use Rattle.text.specs.Text.{text_with}
use Rattle.marked.specs.MarkedListing.{bytes, page, m1-mark}
use Rattle.lineage.specs.Promises.{ShapeAnswer}
use Rattle.history.specs.LentCalls.{TextRun, LentCall, RowRan, TextRan, Met, Ran}
use Rattle.history.proofs.LentCase.{options, new, holding, holding_by, spare-empty}

-- an entry of a lent list
abbrev pub entry_of : Ancestor → Entry
entry_of a = record { ancestor = a }

-- an output before a call: n bytes from the byte b on, each greater by one ("A0 (hexadecimal) plus i mod 61", docs/REPLAY.md; n is below 61)
abbrev pub counted : ℕ → ℕ → List ℕ
counted b zero = []
counted b (suc n) = b ∷ counted (suc b) n

-- ---- the shapers

-- after row 1 (Parent 2, Ancestor 3): "previous=0 columns=Parent 2,Ancestor 3"
abbrev pub after-row : Shaper
after-row = holding_by 1 (column.Parent 2 ∷ column.Ancestor 3 ∷ []) (Some 0)

-- after the text call of node 2 (Anonymous): "previous=0 columns=Empty,Ancestor 3"
abbrev pub after_text : Shaper
after_text = holding_by 1 (column.Empty ∷ column.Ancestor 3 ∷ []) (Some 0)

-- after the text call of node 3 without entries: "previous=1 columns="
abbrev pub at-end : Shaper
at-end = holding [] (Some 1)

-- ---- an accepted row with entries

-- the shape of row 1 (Parent 2, Ancestor 3): "link VERT_PARENT+RIGHT_MERGE_ANCESTOR+CHILD,LEFT_FORK_ANCESTOR"
abbrev pub row-shape : RowShape
row-shape =
    record {
      node = 1;
      merge = true;
      separator_line = false;
      style = options.graph_row_shape_style;
      is_head = true;
      is_root = false;
      node_column = 0;
      width = 2;
      link_line = true;
      term_line = false;
      cells =
          record {
            node = node.Node;
            link = joined vert_parent (joined right_merge_ancestor child);
            link_from_node = joined vert_parent (joined right_merge_ancestor child);
            term = false;
            ancestry = pad.Parent;
            parent = true;
          }
          ∷ record {
            node = node.Blank;
            link = left_fork_ancestor;
            link_from_node = left_fork_ancestor;
            term = false;
            ancestry = pad.Ancestor;
            parent = true;
          }
          ∷ replicate 62 blank_cell;
    }

-- its entries
abbrev pub row-entries : List Entry
row-entries = entry_of (entry.Parent 2) ∷ entry_of (entry.Ancestor 3) ∷ []

-- "row 0", and the shape
abbrev pub row-answer : ShapeAnswer
row-answer = record { refusal = 0; shape = row-shape }

-- an accepted row with entries meets its contract
pub row-accepted : Met (fresh options) (RowRan 1 row-entries after-row row-answer)
unfolding row place
row-accepted =
    record {
      reply = refl;
      refused = λ z. absurd (z refl);
      fits = λ z. omega arith;
      options = refl;
      rest = λ z. spare-empty 1 (column.Parent 2 ∷ column.Ancestor 3 ∷ []) 62;
    }

-- ---- text calls

-- a new text state
abbrev pub new-state : TextState
new-state = record { queued_pad_line = replicate 512 0; queued_length = 0; is_queued = false; row_height = 0 }

-- with the foot line of the row with a term line: "state queued=4:  .  row_height=4"
abbrev pub queued-state : TextState
queued-state = record { queued_pad_line = bytes "  . " ++ replicate 508 0; queued_length = 4; is_queued = true; row_height = 4 }

-- after the queued line was written: "state queued=no row_height=1"
abbrev pub flushed-state : TextState
flushed-state = record { queued_pad_line = queued-state.queued_pad_line; queued_length = 0; is_queued = false; row_height = 1 }

-- the text call of node 2 (Anonymous) with a message of two lines: "text 0 22 6"; four bytes stand behind its end
abbrev pub queueing : TextRun
queueing =
    record {
      state = new-state;
      renderer = Ascii;
      node = 2;
      entries = entry_of entry.Anonymous ∷ [];
      mark = m1-mark;
      message = bytes "a\nb";
      output = counted 0xa0 26;
      state' = queued-state;
      output' = page ("o .  a" ∷ "| .  b" ∷ "~ ." ∷ "  ." ∷ []) ++ (0xb6 ∷ 0xb7 ∷ 0xb8 ∷ 0xb9 ∷ []);
      answer = record { refusal = 0; length = 22; measure = 6 };
    }

-- an accepted text call that queues a line meets its contract
pub text-accepted : Met after-row (TextRan queueing after_text)
unfolding row place text_with choice_of bytes_of measure_of
text-accepted =
    record {
      reply = refl;
      refused = λ z. absurd (z refl);
      fits = λ z. omega arith;
      options = refl;
      queue = λ z. (omega arith, λ e. absurd (false≢true (sym e)));
      rest = λ z. spare-empty 1 (column.Empty ∷ column.Ancestor 3 ∷ []) 62;
    }

-- the text call of node 3 without entries, its output a byte shorter than its lines: "text 8 0 0"
abbrev pub too_short : TextRun
too_short =
    record {
      state = queued-state;
      renderer = Ascii;
      node = 3;
      entries = [];
      mark = m1-mark;
      message = bytes "c";
      output = counted 0xa0 10;
      state' = queued-state;
      output' = counted 0xa0 10;
      answer = record { refusal = output_shorter_than_lines; length = 0; measure = 0 };
    }

-- a refused text call meets its contract: nothing has changed
pub text-refused : Met after_text (TextRan too_short after_text)
unfolding row place text_with choice_of bytes_of
text-refused =
    record {
      reply = refl;
      refused = λ z. (refl, refl, refl);
      fits = λ z. absurd (omega (arith, z));
      options = refl;
      queue = λ z. absurd (omega (arith, z));
      rest = λ z. absurd (omega (arith, z));
    }

-- ---- a row with nine entries

-- "Nine entries now give 3" (02, R-5)
abbrev pub too_many : List Entry
too_many = replicate 9 (entry_of (entry.Parent 4))

-- "row 3", and "a shape without cells"
abbrev pub too-many-answer : ShapeAnswer
too-many-answer = record { refusal = too_many_entries; shape = no_shape }

-- a refused row meets its contract: nothing has changed
pub row-refused : Met after_text (RowRan 3 too_many after_text too-many-answer)
unfolding row place
row-refused =
    record {
      reply = refl;
      refused = λ z. refl;
      fits = λ z. absurd (omega (arith, z));
      options = refl;
      rest = λ z. absurd (omega (arith, z));
    }

-- ---- the text call that writes the queued line

-- the text call of node 3 without entries, with room: "text 0 11 6"; three bytes stand behind its end
abbrev pub flushing : TextRun
flushing =
    record {
      state = queued-state;
      renderer = Ascii;
      node = 3;
      entries = [];
      mark = m1-mark;
      message = bytes "c";
      output = counted 0xa0 14;
      state' = flushed-state;
      output' = page ("  ." ∷ "  o  c" ∷ []) ++ (0xab ∷ 0xac ∷ 0xad ∷ []);
      answer = record { refusal = 0; length = 11; measure = 6 };
    }

-- an accepted text call that writes the queued line meets its contract
pub text-flushes : Met after_text (TextRan flushing at-end)
unfolding row place text_with choice_of bytes_of measure_of
text-flushes =
    record {
      reply = refl;
      refused = λ z. absurd (z refl);
      fits = λ z. omega arith;
      options = refl;
      queue = λ z. (omega arith, λ e. refl);
      rest = λ z. spare-empty 0 [] 64;
    }

-- ---- the run

-- the five calls
abbrev pub calls : List LentCall
calls =
    RowRan 1 row-entries after-row row-answer
    ∷ TextRan queueing after_text
    ∷ TextRan too_short after_text
    ∷ RowRan 3 too_many after_text too-many-answer
    ∷ TextRan flushing at-end
    ∷ []

-- each meets its contract on the shaper that the call before left
pub ran : Ran new.shaper calls
ran = (row-accepted, (text-accepted, (text-refused, (row-refused, (text-flushes, tt)))))
