-- An accepted turn, as the calls of a model say it.
use Rattle.std.proofs.Common.{◌≡◌, ℕ, ◌<◌, ◌≤◌, Bool, true, false, cond, ltb, List, set, Some, None, Ok, Option, ok_or, refl, ap, ◌∙◌, subst, arith}
use Rattle.answers.specs.declared.refusal.Refusal.TheVariants as refusals
use Rattle.machine.proofs.Cores.{Kept, kept, whole, wrote_whole}
use Rattle.machine.specs.Calls.{after_run, answered, store_after, turn_answer, turn_refusal, turn_run, unless_refused}
use Rattle.machine.specs.Models.{Model, entry_of}
use Rattle.pages.specs.declared.file.PageFile.{PageFile}
use Rattle.pages.specs.declared.relocation.Relocation.{Relocation}
use Rattle.registers.specs.Keys.{keys, keys_from}
use Rattle.registers.specs.declared.keys.Keys.{Keys}
use Rattle.registers.specs.declared.record.Record.{Record}
use Rattle.registers.specs.declared.record.State.{State}
use Rattle.registers.specs.declared.record.State.TheVariants.{Running, Stopped}
use Rattle.registers.specs.declared.registers.Registers.{Registers}
use Rattle.registers.specs.declared.trap.Trap.{Trap}
use Rattle.std.proofs.lemmas.Bool.{le-ltb, ltb-true}
use Rattle.store.specs.Meaning.{Meaning, after}
use Rattle.turn.specs.Runs.{Run}
use Rattle.turn.specs.Turns.{Ran, Turning, turns, state_after}
use Rattle.turn.specs.declared.turned.Turned.{Turned}

made_at : (k : ℕ) (q : Keys) (b : Bool) → ltb k 64 ≡ b → ok_or (cond b (Some (keys k)) None) refusals.Keys ≡ Ok q → (k < 64) × (q ≡ keys k)
made_at k q true e h = (ltb-true k 64 e, cc)
made_at k q false e h = let z : ◌≡◌ {A = ℕ} 0 1 = cc in absurd (omega arith)

-- keys that were made are those of the number
pub made : (k : ℕ) (q : Keys) → ok_or (keys_from k) refusals.Keys ≡ Ok q → (k < 64) × (q ≡ keys k)
made k q h = made_at k q (ltb k 64) refl h

same_turned : (a : Turned) (n : ℕ) (t : Option Trap) → a.count ≡ n → a.trap ≡ t → a ≡ record { count = n; trap = t }
same_turned a n t e f =
    ap (λ (m : ℕ). let b : Turned = record { count = m; trap = a.trap } in b) e ∙ ap (λ (u : Option Trap). let b : Turned = record { count = n; trap = u } in b) f

same_record : (x : Record) (r : Registers) (t : State) → x.registers ≡ r → x.state ≡ t → x ≡ record { registers = r; state = t }
same_record x r t e f =
    ap (λ (q : Registers). let y : Record = record { registers = q; state = x.state } in y) e ∙ ap (λ (u : State). let y : Record = record { registers = r; state = u } in y) f

not_refused : (m : Model) (g n k : ℕ) → g ≤ 7 → 1 ≤ n → n ≤ 10000 → k ≤ 63 → (entry_of m.records g).state ≡ Running → turn_refusal m g n k ≡ None
not_refused m g n k a b c d e = rw (le-ltb 7 g a, le-ltb n 1 b, le-ltb 10000 n c, le-ltb 63 k d, e)

module _ {C : Type 0} (meaning : C → Meaning) (wrote : C → ℕ → ℕ → C)
    (law : (c : C) (a v : ℕ) → (meaning c).takes a ≡ Ok tt → meaning (wrote c a v) ≡ after (Ok tt) (meaning c) a v)
    (rs : List Record) (s s' : Relocation C) (g n k : ℕ) (x' : Record) (a : Turned) where
  abbrev Turn : Record → Type 0
  Turn x = Ran (whole meaning wrote law) (wrote_whole meaning wrote law) (keys k) g n x x' s s' a

  abbrev start : Model
  start = record { records = rs; pages = s.pages.entries; core = meaning s.below }

  running : (x : Record) (t : State) → x.state ≡ t → turns (whole meaning wrote law) (wrote_whole meaning wrote law) (keys k) g n t x x' s s' (Some a) → (x.state ≡ Running) × Turn x
  running x Running e h = (e, h)
  running x (Stopped t) e h = let f = h.0 in let z : ◌≡◌ {A = ℕ} 0 1 = cc in absurd (omega arith)

  left : Turn (entry_of rs g) → (rs' : List Record) → rs' ≡ set rs g x' → record { records = rs'; pages = s'.pages.entries; core = meaning s'.below } ≡ after_run start g (turn_run start g n k)
  left h rs' e =
      let z : Run = turn_run start g n k in
      let p : Kept meaning wrote law s s' _ = rw h.whole (kept meaning wrote law g z.writes s) in
      let q : rs' ≡ set rs g (record { registers = z.registers; state = state_after z.trap }) = e ∙ ap (set rs g) (same_record x' z.registers (state_after z.trap) h.registers h.state) in
      ap (λ (r : List Record). let m : Model = record { records = r; pages = s'.pages.entries; core = meaning s'.below } in m) q
      ∙ ap (λ (f : PageFile). let m : Model = record { records = set rs g (record { registers = z.registers; state = state_after z.trap }); pages = f.entries; core = meaning s'.below } in m) p.pages
      ∙ ap (λ (c : Meaning). let m : Model = record { records = set rs g (record { registers = z.registers; state = state_after z.trap }); pages = s.pages.entries; core = c } in m) p.core

  pub accepted_turn : g ≤ 7 → 1 ≤ n → n ≤ 10000 → k ≤ 63 → Turning (whole meaning wrote law) (wrote_whole meaning wrote law) (keys k) g n (entry_of rs g) x' s s' (Some a)
      → (rs' : List Record) → rs' ≡ set rs g x'
      → (Ok a ≡ answered (turn_refusal start g n k) (turn_answer (turn_run start g n k)))
      × (record { records = rs'; pages = s'.pages.entries; core = meaning s'.below } ≡ unless_refused (turn_refusal start g n k) (after_run start g (turn_run start g n k)) start)
      × (s' ≡ unless_refused (turn_refusal start g n k) (store_after meaning wrote g (turn_run start g n k) s) s)
  accepted_turn b c d e h rs' r =
      let t = running (entry_of rs g) (entry_of rs g).state refl h in
      let y = t.1 in
      let o = not_refused start g n k b c d e t.0 in
      (rw o (ap (λ (u : Turned). Ok u) (same_turned a _ _ y.count y.trap)), rw o (left y rs' r), rw o y.whole)

  -- the same, with the values by the names that the code gives them
  pub accepted_by : (j : ℕ) (q : Keys) (x : Record) → j ≡ g → q ≡ keys k → x ≡ entry_of rs j → j < 8 → 1 ≤ n → n ≤ 10000 → k < 64
      → Turning (whole meaning wrote law) (wrote_whole meaning wrote law) q j n x x' s s' (Some a) → (rs' : List Record) → rs' ≡ set rs j x'
      → (Ok a ≡ answered (turn_refusal start g n k) (turn_answer (turn_run start g n k)))
      × (record { records = rs'; pages = s'.pages.entries; core = meaning s'.below } ≡ unless_refused (turn_refusal start g n k) (after_run start g (turn_run start g n k)) start)
      × (s' ≡ unless_refused (turn_refusal start g n k) (store_after meaning wrote g (turn_run start g n k) s) s)
  accepted_by j q x e f y b c d l h rs' r =
      let i : g ≤ 7 = omega arith in
      let o : k ≤ 63 = omega arith in
      let u : x ≡ entry_of rs g = y ∙ ap (entry_of rs) e in
      let v : rs' ≡ set rs g x' = r ∙ ap (λ (m : ℕ). set rs m x') e in
      let w : Turning (whole meaning wrote law) (wrote_whole meaning wrote law) (keys k) g n (entry_of rs g) x' s s' (Some a) =
      subst (λ (z : Record). Turning (whole meaning wrote law) (wrote_whole meaning wrote law) (keys k) g n z x' s s' (Some a)) u
      (subst (λ (z : ℕ). Turning (whole meaning wrote law) (wrote_whole meaning wrote law) (keys k) z n x x' s s' (Some a)) e
      (subst (λ (z : Keys). Turning (whole meaning wrote law) (wrote_whole meaning wrote law) z j n x x' s s' (Some a)) f h)) in
      accepted_turn i c d o w rs' v
