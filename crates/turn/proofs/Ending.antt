-- What a turn leaves, from where its loop ends.
use Rattle.std.proofs.Common.{◌≡◌, ℕ, ◌+◌, ◌-◌, ◌<◌, ◌≤◌, List, [], ◌++◌, Some, None, Ok, Err, Result, sym, refl, ap, ◌∙◌, add-zero, arith}
use Rattle.registers.specs.declared.keys.Keys.{Keys}
use Rattle.registers.specs.declared.record.Record.{Record}
use Rattle.registers.specs.declared.record.State.TheVariants.{Running}
use Rattle.registers.specs.declared.trap.Trap.{Trap}
use Rattle.rules.specs.Sight.{Done, sight, left, outcome, writes as rule_writes}
use Rattle.rules.specs.Table.{step}
use Rattle.store.specs.Meaning.{Meaning}
use Rattle.turn.proofs.Joining.{run_joins}
use Rattle.turn.proofs.Lasting.{run_lasts}
use Rattle.turn.proofs.Runs.{after_join, with_join, preceded_twice, run_none, run_more, run_stop}
use Rattle.turn.specs.Runs.{Run, run, preceded, ended}
use Rattle.turn.specs.Turns.{Advanced, Ran, state_after, stepped_state}
use Rattle.turn.specs.declared.turned.Turned.{Turned}
use Rattle.view.specs.Writes.{Write, after_writes, with_writes}

module _ {S : Type 0} (meaning : S → Meaning) (wrote : S → ℕ → ℕ → S) (keys : Keys) (g n : ℕ) (x : Record) (s : S) where
  -- after c instructions that wrote xs, with the record y and the store u: what is left of the run gives what the whole gives
  pub record Sofar (c : ℕ) (y : Record) (u : S) : Type 0 where
    pub writes : List Write
    pub within : c ≤ n
    pub state : y.state ≡ Running
    pub effect : meaning u ≡ after_writes g writes (meaning s)
    pub whole : u ≡ with_writes meaning wrote g writes s
    pub rest : run n keys g x.registers (meaning s) ≡ preceded c writes (run (n - c) keys g y.registers (meaning u))

  -- one instruction more
  went_on : (c : ℕ) (y y' : Record) (u u' : S) (o : Result Done Trap) → Sofar c y u → c < n → step keys (sight (meaning u) g) y.registers ≡ o → outcome o ≡ Ok tt
      → y'.registers ≡ left y.registers o → y'.state ≡ stepped_state o → meaning u' ≡ after_writes g (rule_writes o) (meaning u) → u' ≡ with_writes meaning wrote g (rule_writes o) u → Sofar (c + 1) y' u'
  went_on c y y' u u' (Ok d) h l e b r t f w = record {
    writes = h.writes ++ d.writes;
    within = omega arith;
    state = t;
    effect = f ∙ ap (after_writes g d.writes) h.effect ∙ sym (after_join g h.writes d.writes (meaning s));
    whole = w ∙ ap (with_writes meaning wrote g d.writes) h.whole ∙ sym (with_join meaning wrote g h.writes d.writes s);
    rest =
        let p : 0 < n - c = omega arith in
        let k : n - c - 1 ≡ n - (c + 1) = omega arith in
        h.rest ∙ ap (preceded c h.writes) (run_more keys g y.registers (meaning u) (n - c) d p e)
        ∙ preceded_twice c 1 h.writes d.writes (run (n - c - 1) keys g d.registers (after_writes g d.writes (meaning u)))
        ∙ rw (k, r, f) refl;
  }
  went_on c y y' u u' (Err t) h l e b r v f w = let z : ◌≡◌ {A = ℕ} 0 1 = cc in absurd (omega arith)

  pub more : (c : ℕ) (y y' : Record) (u u' : S) (b : Result (Unit {0}) Trap) → Sofar c y u → c < n → Advanced meaning wrote keys g y y' u u' b → b ≡ Ok tt → Sofar (c + 1) y' u'
  more c y y' u u' b h l a e =
      went_on c y y' u u' (step keys (sight (meaning u) g) y.registers) h l refl (sym a.answer ∙ e) a.registers a.state a.effect a.whole

  -- the whole run is known
  settled : (z : Run) → run n keys g x.registers (meaning s) ≡ z → (y : Record) (u : S) (a : Turned) → a.count ≡ z.count → a.trap ≡ z.trap → y.registers ≡ z.registers → y.state ≡ state_after z.trap
      → meaning u ≡ after_writes g z.writes (meaning s) → u ≡ with_writes meaning wrote g z.writes s → Ran meaning wrote keys g n x y s u a
  settled z e y u a c t r v f w = record {
    count = rw e c;
    trap = rw e t;
    registers = rw e r;
    state = rw e v;
    effect = rw e f;
    whole = rw e w;
    lasts = rw (c, t, r, f, ← e) (run_lasts n keys g x.registers (meaning s));
    joins = λ j k. run_joins keys g j k x.registers (meaning s);
  }

  pub at_length : (c : ℕ) (y : Record) (u : S) → Sofar c y u → n ≤ c → Ran meaning wrote keys g n x y s u (record { count = n; trap = None })
  at_length c y u h l =
      let k : n - c ≡ 0 = omega arith in
      settled (preceded c h.writes (ended y.registers None)) (h.rest ∙ ap (preceded c h.writes) (run_none keys g y.registers (meaning u) (n - c) k))
      y u (record { count = n; trap = None }) (let q : c ≤ n = h.within in omega arith) refl refl h.state
      (h.effect ∙ sym (after_join g h.writes [] (meaning s))) (h.whole ∙ sym (with_join meaning wrote g h.writes [] s))

  stopped_at : (c : ℕ) (y y' : Record) (u u' : S) (e : Trap) (o : Result Done Trap) → Sofar c y u → c < n → step keys (sight (meaning u) g) y.registers ≡ o → outcome o ≡ Err e
      → y'.registers ≡ left y.registers o → y'.state ≡ stepped_state o → meaning u' ≡ after_writes g (rule_writes o) (meaning u) → u' ≡ with_writes meaning wrote g (rule_writes o) u → Ran meaning wrote keys g n x y' s u' (record { count = c; trap = Some e })
  stopped_at c y y' u u' e (Ok d) h l k b r v f w = let z : ◌≡◌ {A = ℕ} 0 1 = cc in absurd (omega arith)
  stopped_at c y y' u u' e (Err t) h l k b r v f w =
      let p : 0 < n - c = omega arith in
      settled (preceded c h.writes (ended y.registers (Some t))) (h.rest ∙ ap (preceded c h.writes) (run_stop keys g y.registers (meaning u) (n - c) t p k))
      y' u' (record { count = c; trap = Some e }) (sym (add-zero c)) (let q : ◌≡◌ {A = Result (Unit {0}) Trap} (Err t) (Err e) = b in cc) r v
      (f ∙ h.effect ∙ sym (after_join g h.writes [] (meaning s))) (w ∙ h.whole ∙ sym (with_join meaning wrote g h.writes [] s))

  pub stopped : (c : ℕ) (y y' : Record) (u u' : S) (b : Result (Unit {0}) Trap) (e : Trap) → Sofar c y u → c < n → Advanced meaning wrote keys g y y' u u' b → b ≡ Err e → Ran meaning wrote keys g n x y' s u' (record { count = c; trap = Some e })
  stopped c y y' u u' b e h l a i =
      stopped_at c y y' u u' e (step keys (sight (meaning u) g) y.registers) h l refl (sym a.answer ∙ i) a.registers a.state a.effect a.whole
