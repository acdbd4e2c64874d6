-- Pieces may be cut anywhere: what is left of the bytes comes to the same. A line that fits is obeyed as it came, one that is too long changes nothing;
-- so an input of whole lines is each line obeyed in turn. Assumes nothing.
use mathlib.Core.Path.{◌≡◌, refl, ◌∙◌, ap, subst⁻¹}
use mathlib.Core.Bool.{Bool, true, false}
use mathlib.Core.List.{List, [], ◌∷◌, ◌++◌}
use Prim.Native.Nat.{ℕ, ◌+◌, ◌≤◌, ◌<◌}
use native.Mathlib.Numerals.{add-one}
use native.Mathlib.Nat.{zero-add}
use native.Mathlib.Omega.{arith}
use borrow.Author.Tests.{lt-ltb, le-ltb, ltb-true, ltb-false}
use lib.Dec.{ltb, eqb}
use lib.ListN.{length, get_or, set, take, drop, drop_of_length-le, length-set, length-replicate}
use lib.Seq.{drop-cons}
use Rattle.text.specs.Read.{newline}
use Rattle.form.specs.Gather.{Gathering, gather_one, gather_all}
use Rattle.form.proofs.GatherLaws.{gather_fits, gather_long}
use Rattle.commands.specs.declared.change.Console.{Console}
use Rattle.commands.specs.Command.{command_of, line_command}
use Rattle.commands.specs.Given.{triples_of}
use Rattle.commands.specs.Obeyed.{obeyed, nothing_held}
use Rattle.commands.specs.Reading.{Held, ended, gathering, taken, taken_all, start, console_after, input_of, line_after, obeyed_all}

module _ (bs : List ℕ) (h : Held) {i : ℕ} where
  pub taken_next : i < length bs → taken_all (drop i bs) h ≡ taken_all (drop (i + 1) bs) (taken h (get_or bs i 0))
  unfolding taken_all
  taken_next l = rw (add-one i, drop-cons bs i 0 l)

  pub taken_end : length bs ≤ i → taken_all (drop i bs) h ≡ h
  unfolding taken_all
  taken_end l = rw (drop_of_length-le bs l)

-- an input in two pieces is taken as the two in turn
pub taken_pieces : (ps bs : List ℕ) (h : Held) → taken_all (ps ++ bs) h ≡ taken_all bs (taken_all ps h)
unfolding taken_all
taken_pieces [] bs h = refl
taken_pieces (p ∷ ps) bs h = taken_pieces ps bs (taken h p)

-- the bytes are none of them a newline
abbrev pub OneLine : List ℕ → Type 0
OneLine [] = Unit
OneLine (b ∷ bs) = (eqb b newline ≡ false) × OneLine bs

abbrev part : Held → Gathering
part h = record { line = h.line; held = h.reading.held }

-- the bytes of a line are gathered, and change nothing else
line_gathered : (bs : List ℕ) (h : Held) → OneLine bs →
    taken_all bs h ≡ record { reading = record { console = h.reading.console; held = (gather_all bs (part h)).held; lines = h.reading.lines }; line = (gather_all bs (part h)).line }
unfolding taken_all gather_all
line_gathered [] h o = refl
line_gathered (b ∷ bs) h o =
    let next : Held = record { reading = gathering h.reading h.line; line = set h.line h.reading.held b } in
    let step : taken h b ≡ next = rw o.0 in
    ap (taken_all bs) step ∙ line_gathered bs next o.1

gather_length : (bs : List ℕ) (g : Gathering) → length (gather_all bs g).line ≡ length g.line
unfolding gather_all
gather_length [] g = refl
gather_length (b ∷ bs) g = gather_length bs (gather_one g b) ∙ length-set g.line g.held b

-- a line begins, and there is room for 4,095 bytes
pub record Ready (h : Held) : Type 0 where
  pub none : h.reading.held ≡ 0
  pub room : length h.line ≡ 4095

pub start_ready : Ready start
start_ready = record { none = refl; room = length-replicate {A = ℕ} 4095 0 }

module _ (bs : List ℕ) (h : Held) (o : OneLine bs) (r : Ready h) where
  abbrev g : Gathering
  g = gather_all bs (part h)

  pub after : taken_all (bs ++ (newline ∷ [])) h ≡ taken (record { reading = record { console = h.reading.console; held = g.held; lines = h.reading.lines }; line = g.line }) newline
  unfolding taken_all
  after = taken_pieces bs (newline ∷ []) h ∙ ap (λ (x : Held). taken x newline) (line_gathered bs h o)

  room : length g.line ≡ 4095
  room = gather_length bs (part h) ∙ r.room

  -- after its newline another line begins
  pub line_ready : Ready (taken_all (bs ++ (newline ∷ [])) h)
  unfolding ended
  line_ready = subst⁻¹ Ready after (record { none = refl; room = room })

  -- a line of up to 4,095 bytes: its command is obeyed
  pub line_obeyed : length bs ≤ 4095 → (taken_all (bs ++ (newline ∷ [])) h).reading.console ≡ obeyed h.reading.console (command_of bs) (triples_of bs)
  unfolding ended line_command
  line_obeyed short =
      let fits = gather_fits bs (part h) (rw (r.none, r.room) (omega (arith, short))) in
      let many : g.held ≡ length bs = fits.0 ∙ rw r.none (zero-add (length bs)) in
      let here : take g.held g.line ≡ bs = rw fits.0 (fits.1 ∙ rw r.none) in
      let within : g.held ≤ length g.line = rw (many, room) short in
      rw (after, le-ltb (length g.line) g.held within, here)

  -- a longer one changes nothing
  pub line_long : 4095 < length bs → (taken_all (bs ++ (newline ∷ [])) h).reading.console ≡ h.reading.console
  unfolding ended line_command
  line_long long =
      let many : g.held ≡ length h.line + 1 = gather_long bs (part h) (rw r.none (omega arith)) (rw (r.none, r.room) (omega (arith, long))) in
      let over : length g.line < g.held = rw (many, room, r.room) (omega arith) in
      rw (after, lt-ltb (length g.line) g.held over)

  pub line_after_lem : (taken_all (bs ++ (newline ∷ [])) h).reading.console ≡ line_after h.reading.console bs
  line_after_lem = by (ltb 4095 (length bs)) refl
    where
      by : (t : Bool) → ltb 4095 (length bs) ≡ t → (taken_all (bs ++ (newline ∷ [])) h).reading.console ≡ line_after h.reading.console bs
      by true t = rw t (line_long (ltb-true 4095 (length bs) t))
      by false t = rw t (line_obeyed (ltb-false 4095 (length bs) t))

-- ---- any number of lines
abbrev pub Lines : List (List ℕ) → Type 0
Lines [] = Unit
Lines (l ∷ ls) = OneLine l × Lines ls

pub lines_after : (ls : List (List ℕ)) (h : Held) → Lines ls → Ready h → (taken_all (input_of ls) h).reading.console ≡ obeyed_all h.reading.console ls
unfolding taken_all
lines_after [] h o r = refl
lines_after (l ∷ ls) h o r =
    ap (λ (x : Held). x.reading.console) (taken_pieces (l ++ (newline ∷ [])) (input_of ls) h)
    ∙ lines_after ls (taken_all (l ++ (newline ∷ [])) h) o.1 (line_ready l h o.0 r)
    ∙ ap (λ (c : Console). obeyed_all c ls) (line_after_lem l h o.0 r)

-- the console after an input of whole lines is each line obeyed in turn
pub console_after_lem : (ls : List (List ℕ)) → Lines ls → console_after (input_of ls) ≡ obeyed_all nothing_held ls
console_after_lem ls o = lines_after ls start o start_ready
