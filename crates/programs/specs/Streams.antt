-- What a program does to a reader and a writer whose bytes are known: what it takes from the one and adds to the other, and what all of a run has written.
use Rattle.std.specs.Prelude.{ℕ, ◌≡◌, Bool, true, false, ⊤, List, [], ◌∷◌, ◌++◌, ◌*◌, length, take, drop, None, Some, codes, decimal}
use Rattle.std.specs.Io.KnownBytes.{Keeps, Appends}
use Rattle.std.specs.declared.option.Option.{Option}
use Rattle.steps.specs.Steps.{ProgressView, StepReply}
use Rattle.steps.specs.Files.{Running, started_on, step_on, after_step, written_by, reads_of}
use Rattle.programs.specs.Programs.{Going, On, Stopped, NotRead, NotWritten, Run, after_reads, WentOn}

-- ---- a record

-- a piece is the next record's bytes of what is left, fewer where fewer are left, and it is left no more
abbrev pub Takes : ℕ → Option (List ℕ) → Option (List ℕ) → List ℕ → Type 0
Takes most None after piece = ⊤
Takes most (Some left) None piece = ⊥
Takes most (Some left) (Some after) piece = (piece ≡ take most left) × (after ≡ drop most left)

-- all of the bytes were added, or a first part of them where a write failed
abbrev pub Adds : Option (List ℕ) → Option (List ℕ) → List ℕ → Bool → Type 0
Adds before after bytes true = Appends before after bytes
Adds before after bytes false = (n : ℕ) × Appends before after (take n bytes)

-- ---- a turn, and a run

module _ (step : ProgressView → List ℕ → List ℕ → StepReply) where
  -- a turn: a step on the next piece, whose lines were added; where the read failed nothing was, and where a write failed a first part of them
  abbrev pub TurnsOn : ℕ → Running → Going → Running → Option (List ℕ) → Option (List ℕ) → Option (List ℕ) → Option (List ℕ) → Type 0
  TurnsOn most s On t left less before after =
      (piece : List ℕ) × Takes most left less piece × ((step_on step s piece).goes_on ≡ true) × (t ≡ after_step step s piece) × Appends before after (step_on step s piece).written
  TurnsOn most s Stopped t left less before after =
      (piece : List ℕ) × Takes most left less piece × ((step_on step s piece).goes_on ≡ false) × Appends before after (step_on step s piece).written
  TurnsOn most s NotRead t left less before after = Keeps before after
  TurnsOn most s NotWritten t left less before after =
      (piece : List ℕ) × Takes most left less piece × ((n : ℕ) × Appends before after (take n (step_on step s piece).written))

  -- what was written of the lines of the piece on which a program ends, and whether its step stops it
  abbrev pub EndsOn : Running → Going → List (List ℕ) → List ℕ → Type 0
  EndsOn s On behind last = ⊥
  EndsOn s Stopped [] last = ⊥
  EndsOn s Stopped (piece ∷ rest) last = ((step_on step s piece).goes_on ≡ false) × (last ≡ (step_on step s piece).written)
  EndsOn s NotRead behind last = last ≡ []
  EndsOn s NotWritten [] last = ⊥
  EndsOn s NotWritten (piece ∷ rest) last = (n : ℕ) × (last ≡ take n (step_on step s piece).written)

  -- what a program that ends leaves unread of the bytes ahead: all behind the piece on which it ends
  abbrev pub Leaves : ℕ → Going → List ℕ → Option (List ℕ) → Type 0
  Leaves most On ahead left = ⊥
  Leaves most Stopped ahead left = left ≡ Some (drop most ahead)
  Leaves most NotRead ahead left = ⊤
  Leaves most NotWritten ahead left = left ≡ Some (drop most ahead)

  -- a run on a file's bytes, with a writer that held `before` and holds `after`, and a reader that has `left` behind it: it took a step on one piece of
  -- the file after the other, added the lines of each, and ended at the next piece: where a step stops it with that piece's lines, where a read fails
  -- with none of them, and where a write fails with a first part of them
  pub record RunsOn (most : ℕ) (out file before after : List ℕ) (left : Option (List ℕ)) (r : Run) : Type 0 where
    pub reads : List (List ℕ)
    pub behind : List (List ℕ)
    pub last : List ℕ
    pub pieces : reads_of file ≡ reads ++ behind
    pub went : WentOn step most (started_on out) reads
    pub ends : EndsOn (after_reads step (started_on out) reads) r.going behind last
    pub at : r.number ≡ (after_reads step (started_on out) reads).progress.number
    pub wrote : after ≡ before ++ (written_by step (started_on out) reads ++ last)
    pub leaves : Leaves most r.going (drop (most * length reads) file) left

-- what holds of the bytes that a reader had left, and of those that a writer held and holds, where they are known; what a writer holds stays known
abbrev pub WhereKnown : (List ℕ → List ℕ → List ℕ → Type 0) → Option (List ℕ) → Option (List ℕ) → Option (List ℕ) → Type 0
WhereKnown holds None before after = ⊤
WhereKnown holds (Some file) None after = ⊤
WhereKnown holds (Some file) (Some before) None = ⊥
WhereKnown holds (Some file) (Some before) (Some after) = holds file before after

-- where a step stops a program, it has added all that the definition draws for the file
abbrev pub Draws : (List ℕ → List ℕ) → Going → List ℕ → List ℕ → List ℕ → Type 0
Draws drawn Stopped file before after = after ≡ before ++ drawn file
Draws drawn _ file before after = ⊤

-- ---- what is said

-- words and a number, a line of its own
abbrev pub line_of : List ℕ → ℕ → List ℕ
line_of words number = words ++ (decimal number ++ (10 ∷ []))

-- what a program says, and whether it said all of it: where a step stops it nothing, and else at which record a read or a write failed
abbrev pub Says : Going → ℕ → Option (List ℕ) → Option (List ℕ) → Bool → Type 0
Says On number before after is_said = Keeps before after
Says Stopped number before after is_said = Keeps before after
Says NotRead number before after is_said = Adds before after (line_of (codes "cannot read record ") number) is_said
Says NotWritten number before after is_said = Adds before after (line_of (codes "cannot write record ") number) is_said
