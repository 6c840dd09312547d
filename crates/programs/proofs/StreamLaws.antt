-- What a program takes from a reader and adds to a writer, a read, a write, a turn and a run at a time.
use Rattle.std.proofs.Common.{◌≡◌, ℕ, zero, suc, ◌+◌, ◌-◌, ◌*◌, ◌/◌, ◌<◌, ◌≤◌, ◌⊎◌, min, true≢false, inl, inr, Bool, true, false, List, [], ◌∷◌, ◌++◌, None, Some, Ok, Err, length, take, drop, refl, sym, ap, subst, ◌∙◌, arith, length-take, length-take-le, length-drop, length-append, take-append-drop, take_all, append_assoc, append-nil}
use Rattle.std.specs.declared.option.Option.{Option}
use Rattle.std.specs.declared.result.Result.{Result}
use Rattle.std.specs.Io.KnownBytes.{Appends, Consumes, IsAtEnd}
use Rattle.std.proofs.KnownBytes.{Appends-trans}
use Rattle.std.proofs.Math.Seq.{take-append_seam, drop-append_seam, take-append-add, take-append-le, drop-nil}
use lib.Seq.{take-add, drop-drop}
use borrow.Rule.Slice.PartMut.{put_mid, post_of}
use Rattle.record.specs.Record.{record_length, pieces}
use Rattle.steps.specs.declared.Progress.{Progress}
use Rattle.steps.specs.Steps.{ProgressView, beginning, StepReply}
use Rattle.steps.specs.Files.{Running, started_on, step_on, after_step, written_by, StopsShort, reads_of, step_by_step}
use Rattle.steps.specs.Promises.{progress_view_of}
use Rattle.programs.specs.Programs.{Going, On, Stopped, NotRead, NotWritten, Run, after_reads, WentOn, run_of}
use Rattle.programs.specs.declared.Failure.{Failure}
use Rattle.programs.specs.declared.Failure.TheVariants.{NotRead as FailedRead, NotWritten as FailedWrite}
use Rattle.programs.specs.Inner.{running, turn_of, kept_of, FailsAt}
use Rattle.programs.specs.Streams.{Takes, Adds, TurnsOn, EndsOn, RunsOn, WhereKnown, Draws}
use Rattle.programs.proofs.ProgramLaws.{after_more, went-more}
use Rattle.programs.proofs.FileRuns.{stopped-bytes}

-- ---- a read and a write

-- what one more read put behind the bytes that were read
pub read-more : (at k n : ℕ) (xs ys : List ℕ) → at ≤ length xs → n ≤ length ys → take at xs ++ take n ys ≡ take (at + n) (put_mid at k xs ys)
read-more at k n xs ys h m =
    let front : length (take at xs) ≡ at = length-take-le at xs h in
    let behind : List ℕ = post_of at k xs in
    let whole : take (length (take at xs) + n) (put_mid at k xs ys) ≡ take at xs ++ take n ys =
    take-append-add (take at xs) (ys ++ behind) n ∙ ap (λ (l : List ℕ). take at xs ++ l) (take-append-le n ys behind m) in
    sym whole ∙ ap (λ (j : ℕ). take (j + n) (put_mid at k xs ys)) front

-- what one more write added behind the bytes that were added
pub write-more : (at n : ℕ) (bytes : List ℕ) → take at bytes ++ take n (take (length bytes - at) (drop at bytes)) ≡ take (at + n) bytes
write-more at n bytes =
    ap (λ (l : List ℕ). take at bytes ++ take n l) (take_all (length bytes - at) (drop at bytes) (omega (arith, length-drop at bytes))) ∙ sym (take-add at n bytes)

-- what was added of a text's beginning, where a write failed, is a first part of the text
pub adds-first : (before after : Option (List ℕ)) (text more : List ℕ) → Adds before after text false → Adds before after (text ++ more) false
adds-first before after text more (n, h) =
    let part : List ℕ = take n text in
    let whole : part ++ (drop n text ++ more) ≡ text ++ more = sym (append_assoc part (drop n text) more) ∙ ap (λ (l : List ℕ). l ++ more) (take-append-drop n text) in
    (length part, subst (Appends before after) (sym (ap (take (length part)) (sym whole) ∙ take-append_seam part (drop n text ++ more))) h)

-- what was added of the rest, behind a text's beginning, is the text or a first part of it
pub adds-next : (before between after : Option (List ℕ)) (text more : List ℕ) (is_whole : Bool) → Appends before between text → Adds between after more is_whole
    → Adds before after (text ++ more) is_whole
adds-next before between after text more true h k = Appends-trans before between after text more h k
adds-next before between after text more false h (n, k) =
    (length text + n, subst (Appends before after) (sym (take-append-add text more n)) (Appends-trans before between after text (take n more) h k))

-- a reader that lost these bytes lost the next record's: as many as a record has, or all that it had
pub taken : (most : ℕ) (left less : Option (List ℕ)) (piece : List ℕ) → Consumes left less piece → ((length piece ≡ most) ⊎ ((length piece ≤ most) × IsAtEnd less))
    → Takes most left less piece
taken most None less piece h e = tt
taken most (Some left) None piece h e = absurd h
taken most (Some left) (Some less) piece h (inl e) =
    (sym (ap (take most) h ∙ ap (λ (k : ℕ). take k (piece ++ less)) (sym e) ∙ take-append_seam piece less), sym (ap (drop most) h ∙ ap (λ (k : ℕ). drop k (piece ++ less)) (sym e) ∙ drop-append_seam piece less))
taken most (Some left) (Some less) piece h (inr e) =
    let all : left ≡ piece = h ∙ ap (λ (l : List ℕ). piece ++ l) e.1 ∙ append-nil piece in
    (sym (ap (take most) all ∙ take_all most piece e.0), e.1 ∙ sym (ap (drop most) all ∙ drop_all most piece e.0))
  where
    drop_all : (n : ℕ) (l : List ℕ) → length l ≤ n → drop n l ≡ []
    drop_all n [] h = drop-nil n
    drop_all zero (x ∷ l) h = absurd (omega (arith, h))
    drop_all (suc n) (x ∷ l) h = drop_all n l (omega (arith, h))

-- ---- a run

-- what is read next is the first of what is left, and where that is a whole record the rest is read behind it
reads-whole : (left : List ℕ) → record_length ≤ length left → reads_of left ≡ take record_length left ∷ reads_of (drop record_length left)
reads-whole left h =
    let rest : suc (length (drop record_length left) / record_length) ≡ length left / record_length = rw (length-drop record_length left) (fewer (length left) h) in
    ap (λ (k : ℕ). take record_length left ∷ pieces k (drop record_length left)) (sym rest)
  where
    fewer : (n : ℕ) → record_length ≤ n → suc ((n - record_length) / record_length) ≡ n / record_length
    fewer n h = omega (arith, h)

module _ (step : ProgressView → List ℕ → List ℕ → StepReply) where
  -- the lines of one more step
  pub written-more : (s : Running) (reads : List (List ℕ)) (piece : List ℕ)
      → written_by step s (reads ++ (piece ∷ [])) ≡ written_by step s reads ++ (step_on step (after_reads step s reads) piece).written
  written-more s [] piece = append-nil (step_on step s piece).written
  written-more s (r ∷ reads) piece =
      ap (λ (l : List ℕ). (step_on step s r).written ++ l) (written-more (after_step step s r) reads piece)
      ∙ sym (append_assoc (step_on step s r).written (written_by step (after_step step s r) reads) (step_on step (after_reads step (after_step step s r) reads) piece).written)

module _ (step : ProgressView → List ℕ → List ℕ → StepReply) (out : List ℕ) where
  abbrev from : Running
  from = started_on out

  -- the steps so far: on the first pieces of the file, and their lines were added
  pub record CameOn (file before left now : List ℕ) (s : Running) : Type 0 where
    pub reads : List (List ℕ)
    pub pieces-so : reads_of file ≡ reads ++ reads_of left
    pub went : WentOn step record_length from reads
    pub is : s ≡ after_reads step from reads
    pub wrote : now ≡ before ++ written_by step from reads
    pub ahead : left ≡ drop (record_length * length reads) file

  -- the same where the bytes are known
  abbrev pub Came : Option (List ℕ) → Option (List ℕ) → Option (List ℕ) → Option (List ℕ) → Running → Type 0
  Came None before left now s = Unit {0}
  Came (Some file) None left now s = Unit {0}
  Came (Some file) (Some before) None now s = ⊥
  Came (Some file) (Some before) (Some left) None s = ⊥
  Came (Some file) (Some before) (Some left) (Some now) s = CameOn file before left now s

  pub came-start : (file before : Option (List ℕ)) (q : Progress) → progress_view_of q ≡ beginning → Came file before file before (running q out)
  came-start None before q e = tt
  came-start (Some file) None q e = tt
  came-start (Some file) (Some before) q e =
      record {
        reads = [];
        pieces-so = refl;
        went = tt;
        is = ap (λ (v : ProgressView). record { progress = v; output = out }) e;
        wrote = sym (append-nil before);
        ahead = refl;
      }

  -- what a turn added, from the beginning on
  added-more : (before now new : List ℕ) (reads : List (List ℕ)) (last : List ℕ) → now ≡ before ++ written_by step from reads → new ≡ now ++ last
      → new ≡ before ++ (written_by step from reads ++ last)
  added-more before now new reads last h e = e ∙ ap (λ (l : List ℕ). l ++ last) h ∙ append_assoc before (written_by step from reads) last

  went-on : StopsShort step → (file before left now less new : List ℕ) (s t : Running) (piece : List ℕ) → CameOn file before left now s
      → Takes record_length (Some left) (Some less) piece → (step_on step s piece).goes_on ≡ true → t ≡ after_step step s piece
      → new ≡ now ++ (step_on step s piece).written → CameOn file before less new t
  went-on stops file before left now less new s t piece h took goes after adds =
      let short : length piece < record_length → ⊥ = λ k. true≢false (sym goes ∙ stops s piece k) in
      let size : length piece ≡ min record_length (length left) = ap length took.0 ∙ length-take record_length left in
      let long : record_length ≤ length left = omega (arith, short, size) in
      let first : take record_length left ∷ reads_of (drop record_length left) ≡ piece ∷ reads_of less = rw (took.0, took.1) refl in
      let goes-on : (step_on step (after_reads step from h.reads) piece).goes_on ≡ true = subst (λ (u : Running). (step_on step u piece).goes_on ≡ true) h.is goes in
      record {
        reads = h.reads ++ (piece ∷ []);
        pieces-so = h.pieces-so ∙ ap (λ (l : List (List ℕ)). h.reads ++ l) (reads-whole left long ∙ first) ∙ sym (append_assoc h.reads (piece ∷ []) (reads_of less));
        went = went-more step record_length from h.reads piece h.went (omega (arith, size)) goes-on;
        is = after ∙ ap (λ (u : Running). after_step step u piece) h.is ∙ sym (after_more step from h.reads piece);
        wrote =
            added-more before now new h.reads (step_on step s piece).written h.wrote adds
            ∙ ap
            (λ (l : List ℕ). before ++ l)
            (ap (λ (u : Running). written_by step from h.reads ++ (step_on step u piece).written) h.is ∙ sym (written-more step from h.reads piece));
        ahead =
            let count : record_length * length h.reads + record_length ≡ record_length * length (h.reads ++ (piece ∷ [])) = omega (arith, length-append h.reads (piece ∷ [])) in
            took.1 ∙ ap (drop record_length) h.ahead ∙ drop-drop record_length (record_length * length h.reads) file ∙ ap (λ (n : ℕ). drop n file) count;
      }

  pub came-more : StopsShort step → (file before left now less new : Option (List ℕ)) (s t : Running) → Came file before left now s
      → TurnsOn step record_length s On t left less now new → Came file before less new t
  came-more stops None before left now less new s t h turn = tt
  came-more stops (Some file) None left now less new s t h turn = tt
  came-more stops (Some file) (Some before) None now less new s t h turn = absurd h
  came-more stops (Some file) (Some before) (Some left) None less new s t h turn = absurd h
  came-more stops (Some file) (Some before) (Some left) (Some now) None new s t h turn = absurd turn.1
  came-more stops (Some file) (Some before) (Some left) (Some now) (Some less) None s t h turn = absurd turn.4
  came-more stops (Some file) (Some before) (Some left) (Some now) (Some less) (Some new) s t h (piece, took, goes, after, adds) =
      went-on stops file before left now less new s t piece h took goes after adds

  -- how a run ends
  abbrev Ended : List ℕ → List ℕ → List ℕ → Option (List ℕ) → Running → Going → Type 0
  Ended file before new less s g = RunsOn step record_length out file before new less (record { going = g; number = s.progress.number })

  was-stopped : (file before left now less new : List ℕ) (s t : Running) → CameOn file before left now s
      → TurnsOn step record_length s Stopped t (Some left) (Some less) (Some now) (Some new) → Ended file before new (Some less) s Stopped
  was-stopped file before left now less new s t h (piece, took, goes, adds) =
      record {
        reads = h.reads;
        behind = reads_of left;
        last = (step_on step s piece).written;
        pieces = h.pieces-so;
        went = h.went;
        ends = rw (← h.is, ← took.0) (goes, refl);
        at = ap (λ (u : Running). u.progress.number) h.is;
        wrote = added-more before now new h.reads (step_on step s piece).written h.wrote adds;
        leaves = ap Some (took.1 ∙ ap (drop record_length) h.ahead);
      }

  was-not-read : (file before left now new : List ℕ) (less : Option (List ℕ)) (s : Running) → CameOn file before left now s → new ≡ now → Ended file before new less s NotRead
  was-not-read file before left now new less s h e =
      record {
        reads = h.reads;
        behind = reads_of left;
        last = [];
        pieces = h.pieces-so;
        went = h.went;
        ends = refl;
        at = ap (λ (u : Running). u.progress.number) h.is;
        wrote = added-more before now new h.reads [] h.wrote (e ∙ sym (append-nil now));
        leaves = tt;
      }

  was-not-written : (file before left now less new : List ℕ) (s t : Running) → CameOn file before left now s
      → TurnsOn step record_length s NotWritten t (Some left) (Some less) (Some now) (Some new) → Ended file before new (Some less) s NotWritten
  was-not-written file before left now less new s t h (piece, took, part) =
      record {
        reads = h.reads;
        behind = reads_of left;
        last = take part.0 (step_on step s piece).written;
        pieces = h.pieces-so;
        went = h.went;
        ends = (part.0, rw (← h.is, ← took.0) refl);
        at = ap (λ (u : Running). u.progress.number) h.is;
        wrote = added-more before now new h.reads (take part.0 (step_on step s piece).written) h.wrote part.1;
        leaves = ap Some (took.1 ∙ ap (drop record_length) h.ahead);
      }

  -- a turn behind which a program does not go on
  abbrev EndsTurn : Going → Type 0
  EndsTurn On = ⊥
  EndsTurn Stopped = Unit {0}
  EndsTurn NotRead = Unit {0}
  EndsTurn NotWritten = Unit {0}

  pub came-done : (file before left now less new : Option (List ℕ)) (s t : Running) (g : Going) → Came file before left now s
      → EndsTurn g → TurnsOn step record_length s g t left less now new
      → WhereKnown (λ f b a. Ended f b a less s g) file before new
  came-done None before left now less new s t g h off turn = tt
  came-done (Some file) None left now less new s t g h off turn = tt
  came-done (Some file) (Some before) None now less new s t g h off turn = absurd h
  came-done (Some file) (Some before) (Some left) None less new s t g h off turn = absurd h
  came-done (Some file) (Some before) (Some left) (Some now) less new s t On h off turn = absurd off
  came-done (Some file) (Some before) (Some left) (Some now) None new s t Stopped h off turn = absurd turn.1
  came-done (Some file) (Some before) (Some left) (Some now) (Some less) None s t Stopped h off turn = absurd turn.3
  came-done (Some file) (Some before) (Some left) (Some now) (Some less) (Some new) s t Stopped h off turn = was-stopped file before left now less new s t h turn
  came-done (Some file) (Some before) (Some left) (Some now) less None s t NotRead h off turn = absurd turn
  came-done (Some file) (Some before) (Some left) (Some now) less (Some new) s t NotRead h off turn = was-not-read file before left now new less s h turn
  came-done (Some file) (Some before) (Some left) (Some now) None new s t NotWritten h off turn = absurd turn.1
  came-done (Some file) (Some before) (Some left) (Some now) (Some less) None s t NotWritten h off turn = absurd turn.2.1
  came-done (Some file) (Some before) (Some left) (Some now) (Some less) (Some new) s t NotWritten h off turn = was-not-written file before left now less new s t h turn

-- the same at what a turn gives, whose bytes are as many as a record's
module _ (step : ProgressView → List ℕ → List ℕ → StepReply) (stops : StopsShort step) (out : List ℕ) (most : ℕ) (full : most ≡ record_length)
    (file before left now less new : Option (List ℕ)) (q : Progress) (held then : List ℕ) (h : Came step out file before left now (running q held)) where
  abbrev Turned : ℕ → Result (Option Progress) Failure → Type 0
  Turned n r = TurnsOn step n (running q held) (turn_of r) (running (kept_of q r) then) left less now new

  abbrev RanTo : Result ℕ Failure → Type 0
  RanTo r = WhereKnown (λ f b a. RunsOn step record_length out f b a less (run_of r)) file before new

  pub full-more : (o : Option Progress) (p : Progress) → o ≡ Some p → Turned most (Ok o) → Came step out file before less new (running p then)
  full-more o p e t =
      came-more step out stops file before left now less new (running q held) (running p then) h
      (subst (λ (n : ℕ). Turned n (Ok (Some p))) full (subst (λ (o : Option Progress). Turned most (Ok o)) e t))

  pub full-stopped : (o : Option Progress) → o ≡ None → Turned most (Ok o) → RanTo (Ok q.number)
  full-stopped o e t =
      came-done step out file before left now less new (running q held) (running q then) Stopped h tt
      (subst (λ (n : ℕ). Turned n (Ok None)) full (subst (λ (o : Option Progress). Turned most (Ok o)) e t))

  pub full-failed : (f : Failure) → FailsAt q.number (Err f) → Turned most (Err f) → RanTo (Err f)
  full-failed (FailedRead k) e t =
      rw e (came-done step out file before left now less new (running q held) (running q then) NotRead h tt (subst (λ (n : ℕ). Turned n (Err (FailedRead k))) full t))
  full-failed (FailedWrite k) e t =
      rw e (came-done step out file before left now less new (running q held) (running q then) NotWritten h tt (subst (λ (n : ℕ). Turned n (Err (FailedWrite k))) full t))

-- where a step stops a run, all that is drawn for the file was added
pub run-draws : (step : ProgressView → List ℕ → List ℕ → StepReply) (most : ℕ) (out : List ℕ) (r : Run) (file before after left : Option (List ℕ))
    → WhereKnown (λ f b a. RunsOn step most out f b a left r) file before after
    → WhereKnown (Draws (λ f. step_by_step step beginning out (reads_of f)) r.going) file before after
run-draws step most out r None before after left h = tt
run-draws step most out r (Some file) None after left h = tt
run-draws step most out r (Some file) (Some before) None left h = absurd h
run-draws step most out r (Some file) (Some before) (Some after) left h = go r.going h.ends
  where
    all : (behind : List (List ℕ)) → reads_of file ≡ h.reads ++ behind → EndsOn step (after_reads step (started_on out) h.reads) Stopped behind h.last
        → written_by step (started_on out) h.reads ++ h.last ≡ step_by_step step beginning out (reads_of file)
    all [] e ends = absurd ends
    all (piece ∷ rest) e ends =
        ap (λ (l : List ℕ). written_by step (started_on out) h.reads ++ l) ends.1
        ∙ sym (written-more step (started_on out) h.reads piece)
        ∙ sym (stopped-bytes step most (started_on out) h.reads piece rest h.went ends.0)
        ∙ ap (step_by_step step beginning out) (sym e)

    go : (g : Going) → EndsOn step (after_reads step (started_on out) h.reads) g h.behind h.last
        → Draws (λ f. step_by_step step beginning out (reads_of f)) g file before after
    go On ends = tt
    go NotRead ends = tt
    go NotWritten ends = tt
    go Stopped ends = h.wrote ∙ ap (λ (l : List ℕ). before ++ l) (all h.behind h.pieces ends)
