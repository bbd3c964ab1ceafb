-- Where P goes.
use Rattle.std.proofs.Common.{◌≡◌, ℕ, suc, ◌<◌, Bool, true, false, cond, ◌⊎◌, [], ◌∷◌, Some, None, Ok, Err, Option, Result, refl, ap, inl, inr, arith, lit<}
use Rattle.answers.specs.declared.fault.Fault.{Fault}
use Rattle.instruction.specs.Decode.{decoded}
use Rattle.instruction.specs.declared.action.Action.{Action}
use Rattle.instruction.specs.declared.action.Action.TheVariants as actions
use Rattle.instruction.specs.declared.action.Extension.TheVariants.{Sign, Zero}
use Rattle.instruction.specs.declared.action.Shifted.TheVariants as shifted
use Rattle.instruction.specs.declared.action.Target.{Target}
use Rattle.instruction.specs.declared.action.Target.TheVariants as targets
use Rattle.instruction.specs.declared.instruction.Instruction.{Instruction}
use Rattle.instruction.specs.declared.instruction.Instruction.TheVariants as instructions
use Rattle.instruction.specs.declared.operation.Change.{Change}
use Rattle.instruction.specs.declared.operation.Change.TheVariants as changes
use Rattle.instruction.specs.declared.operation.Operation.{Operation}
use Rattle.instruction.specs.declared.operation.Operation.TheVariants as operations
use Rattle.instruction.specs.declared.operation.Source.TheVariants as sources
use Rattle.instruction.specs.declared.operation.Take.{Take}
use Rattle.instruction.specs.declared.operation.Take.TheVariants as takes
use Rattle.instruction.specs.declared.operation.TakeTwo.{TakeTwo}
use Rattle.instruction.specs.declared.operation.TakeTwo.TheVariants as pairs
use Rattle.instruction.specs.declared.place.Place.{Place}
use Rattle.ones.specs.Numbers.{below, conjunction, counted, exclusive, plus, with_low}
use Rattle.ones.specs.declared.number.Ones.{Ones}
use Rattle.registers.specs.Registers.{with_index, with_p, on}
use Rattle.registers.specs.declared.index.Index.{Index}
use Rattle.registers.specs.declared.index.Index.TheVariants.{B0, B1, B2, B3}
use Rattle.registers.specs.declared.keys.Keys.{Keys}
use Rattle.registers.specs.declared.registers.Registers.{Registers}
use Rattle.registers.specs.declared.trap.Trap.{Trap}
use Rattle.rules.specs.Parts.{changing, combined, effective, reading, reading_two, search_ended, second, sought, storing, storing_two}
use Rattle.rules.specs.Sight.{Sight, Done, bind, quiet, trapping, outcome, left}
use Rattle.rules.specs.Table.{acted, taken, taken_two, changed, change_left, hits, operated, st, searched, rtj, at_address, executed, step}
use Rattle.step.specs.Laws.{Goes, GoesOn, Names, JumpTo, Jumps}

-- a register that is no P leaves P
index_keeps : (r : Registers) (b : Index) (x : Ones 15) → (with_index r b x).p ≡ r.p
index_keeps r B0 x = refl
index_keeps r B1 x = refl
index_keeps r B2 x = refl
index_keeps r B3 x = refl

combined_keeps : (f : Ones 15 → Ones 15 → Ones 15) (g : Ones 24 → Ones 24 → Ones 24) (t : Target) (y : Ones 15) (r : Registers) → (combined f g t y r).p ≡ r.p
combined_keeps f g (targets.Index b) y r = index_keeps r b _
combined_keeps f g (targets.A e) y r = refl
combined_keeps f g (targets.Q e) y r = refl

-- n on, from the same P
on_by : (n : ℕ) (r : Registers) {p : Ones 15} → 0 < n → n < 4 → p ≡ r.p → GoesOn r (counted p n)
on_by n r l h e = (n, l, h, ap (λ (p : Ones 15). counted p n) e)

one_on : (r : Registers) {p : Ones 15} → p ≡ r.p → GoesOn r (counted p 1)
one_on r e = on_by 1 r (lit< tt) (lit< tt) e

skips : (t : Bool) (r : Registers) → GoesOn r (cond t (on 2 r) (on 1 r)).p
skips true r = on_by 2 r (lit< tt) (lit< tt) refl
skips false r = one_on r refl

jumps : (t : Bool) (m : Ones 15) (r : Registers) → GoesOn r (cond t (with_p r m) (on 1 r)).p ⊎ (Unit {0} × ((cond t (with_p r m) (on 1 r)).p ≡ m))
jumps true m r = inr (tt, refl)
jumps false m r = inl (one_on r refl)

-- a choice between registers goes where one of them does
chosen : (P : Registers → Type 0) (t : Bool) (u v : Registers) → P u → P v → P (cond t u v)
chosen P true u v h k = h
chosen P false u v h k = k

equal_goes : (t : Target) (y : Ones 15) (r : Registers) (keys : Keys) → GoesOn r (acted (actions.SkipEqual t) keys y r).p
equal_goes (targets.Index b) y r keys = skips _ r
equal_goes (targets.A Sign) y r keys = skips _ r
equal_goes (targets.A Zero) y r keys = skips _ r
equal_goes (targets.Q Sign) y r keys = skips _ r
equal_goes (targets.Q Zero) y r keys = skips _ r

not_below_goes : (t : Target) (y : Ones 15) (r : Registers) (keys : Keys) → GoesOn r (acted (actions.SkipNotBelow t) keys y r).p
not_below_goes (targets.Index b) y r keys = skips _ r
not_below_goes (targets.A Sign) y r keys = skips _ r
not_below_goes (targets.A Zero) y r keys = skips _ r
not_below_goes (targets.Q Sign) y r keys = skips _ r
not_below_goes (targets.Q Zero) y r keys = skips _ r

pub acted_goes : (a : Action) (keys : Keys) (m : Ones 15) (r : Registers) → GoesOn r (acted a keys m r).p ⊎ (Jumps a × ((acted a keys m r).p ≡ m))
acted_goes (actions.SelectJump d) keys m r = jumps _ m r
acted_goes (actions.IndexJump c b) keys m r =
    chosen (λ u. GoesOn r u.p ⊎ (Unit {0} × (u.p ≡ m))) _ _ _ (inl (one_on r refl)) (inr (tt, refl))
acted_goes (actions.ZeroJump t) keys m r = jumps _ m r
acted_goes (actions.QJump t) keys m r = jumps _ m r
acted_goes (actions.SkipEqual t) keys m r = inl (equal_goes t m r keys)
acted_goes (actions.SkipNotBelow t) keys m r = inl (not_below_goes t m r keys)
acted_goes (actions.IndexSkip c b) keys m r =
    inl (chosen (λ u. GoesOn r u.p) _ _ _ (on_by 2 r (lit< tt) (lit< tt) (index_keeps r b _)) (one_on r (index_keeps r b _)))
acted_goes (actions.Shift shifted.A b) keys m r = inl (one_on r refl)
acted_goes (actions.Shift shifted.Q b) keys m r = inl (one_on r refl)
acted_goes (actions.Shift shifted.Both b) keys m r = inl (one_on r refl)
acted_goes (actions.Enter t) keys m r = inl (one_on r (combined_keeps second second t m r))
acted_goes (actions.Increase t) keys m r = inl (one_on r (combined_keeps plus plus t m r))
acted_goes (actions.ExclusiveOr t) keys m r = inl (one_on r (combined_keeps exclusive exclusive t m r))
acted_goes (actions.And t) keys m r = inl (one_on r (combined_keeps conjunction conjunction t m r))

compared : (t u : Bool) (r : Registers) → GoesOn r (on (cond t 1 (cond u 2 3)) r).p
compared true u r = one_on r refl
compared false true r = on_by 2 r (lit< tt) (lit< tt) refl
compared false false r = on_by 3 r (lit< tt) (lit< tt) refl

taken_goes : (o : Take) (w : Ones 24) (r : Registers) → GoesOn r (taken o w r).p
taken_goes takes.LoadA w r = one_on r refl
taken_goes takes.LoadQ w r = one_on r refl
taken_goes takes.LoadComplement w r = one_on r refl
taken_goes takes.LoadMasked w r = one_on r refl
taken_goes takes.Add w r = one_on r refl
taken_goes takes.Subtract w r = one_on r refl
taken_goes takes.Or w r = one_on r refl
taken_goes takes.ExclusiveOr w r = one_on r refl
taken_goes takes.And w r = one_on r refl
taken_goes takes.Compare w r = compared (below r.a w) (below w r.q) r
taken_goes (takes.LoadIndex b) w r = one_on r (index_keeps r b _)

taken_two_goes : (o : TakeTwo) (u v : Ones 24) (r : Registers) → GoesOn r (taken_two o u v r).p
taken_two_goes pairs.Load u v r = one_on r refl
taken_two_goes pairs.LoadComplement u v r = one_on r refl
taken_two_goes pairs.Add u v r = one_on r refl
taken_two_goes pairs.Subtract u v r = one_on r refl

change_goes : (o : Change) (w : Ones 24) (r : Registers) → GoesOn r (change_left o w r).p
change_goes changes.Add w r = one_on r refl
change_goes changes.StoreAddress w r = one_on r refl
change_goes (changes.StoreIndex b) w r = one_on r refl

search_goes : (r : Registers) (o : Option (Ones 15)) → GoesOn r (search_ended r o).p
search_goes r (Some n) = on_by 2 r (lit< tt) (lit< tt) refl
search_goes r None = one_on r refl

-- what holds of the registers that a row leaves, where it is carried out
abbrev After : {E : Type 0} → (Registers → Type 0) → Result Done E → Type 0
After P (Ok d) = P d.registers
After P (Err e) = Unit {0}

bound : {X E : Type 0} (P : Registers → Type 0) (x : Result X E) (f : X → Result Done E) → ((y : X) → After P (f y)) → After P (bind x f)
bound P (Ok y) f h = h y
bound P (Err e) f h = tt

trapped : (P : Registers → Type 0) (x : Result Done Fault) → After P x → After P (trapping x)
trapped P (Ok d) h = h
trapped P (Err e) h = tt

-- by the shape of a row
module _ (P : Registers → Type 0) (m : Ones 15) (s : Sight) (r : Registers) where
  read_after : (f : Ones 24 → Registers → Registers) → ((w : Ones 24) → P (f w r)) → After P (reading f m s r)
  read_after f h = bound P (s.reads m) (λ w. quiet (f w r)) h

  read_two_after : (f : Ones 24 → Ones 24 → Registers → Registers) → ((u v : Ones 24) → P (f u v r)) → After P (reading_two f m s r)
  read_two_after f h =
      bound P (s.reads m) (λ u. bind (s.reads (counted m 1)) (λ v. quiet (f u v r)))
      (λ u. bound P (s.reads (counted m 1)) (λ v. quiet (f u v r)) (h u))

  change_after : (g : Ones 24 → Registers → Ones 24) (f : Ones 24 → Registers → Registers) → ((w : Ones 24) → P (f w r)) → After P (changing g f m s r)
  change_after g f h =
      let k : Ones 24 → Result Done Fault = λ w. Ok (record { registers = f w r; writes = record { at = m; word = g w r } ∷ [] }) in
      bound P (s.takes m) (λ _. bind (s.reads m) k) (λ _. bound P (s.reads m) k h)

  store_after : (g : Registers → Ones 24) → P (on 1 r) → After P (storing g m s r)
  store_after g h = bound P (s.takes m) (λ _. Ok (record { registers = on 1 r; writes = record { at = m; word = g r } ∷ [] })) (λ _. h)

  store_two_after : (f g : Registers → Ones 24) → P (on 1 r) → After P (storing_two f g m s r)
  store_two_after f g h =
      let k : Unit {0} → Result Done Fault = λ _. Ok (record { registers = on 1 r; writes = record { at = m; word = f r } ∷ (record { at = counted m 1; word = g r } ∷ []) }) in
      bound P (s.takes m) (λ _. bind (s.takes (counted m 1)) k) (λ _. bound P (s.takes (counted m 1)) k (λ _. h))

operated_goes : (o : Operation) (e : Place) (m : Ones 15) (s : Sight) (r : Registers) → effective 64 s.reads r e ≡ Ok (Some m) → After (λ u. GoesOn r u.p ⊎ JumpTo o e s r u.p) (operated o m s r)
operated_goes operations.Jump e m s r h = inr h
operated_goes (operations.Take o) e m s r h = read_after (λ u. GoesOn r u.p ⊎ ⊥) m s r (taken o) (λ w. inl (taken_goes o w r))
operated_goes (operations.TakeTwo o) e m s r h = read_two_after (λ u. GoesOn r u.p ⊎ ⊥) m s r (taken_two o) (λ u v. inl (taken_two_goes o u v r))
operated_goes (operations.Change o) e m s r h = change_after (λ u. GoesOn r u.p ⊎ ⊥) m s r (changed o) (change_left o) (λ w. inl (change_goes o w r))
operated_goes (operations.Store o) e m s r h = store_after (λ u. GoesOn r u.p ⊎ ⊥) m s r (st o) (inl (one_on r refl))
operated_goes operations.StoreTwo e m s r h = store_two_after (λ u. GoesOn r u.p ⊎ ⊥) m s r (st sources.A) (st sources.Q) (inl (one_on r refl))

at_address_goes : (o : Operation) (e : Place) (s : Sight) (r : Registers) (x : Result (Option (Ones 15)) Fault) → effective 64 s.reads r e ≡ x → After (λ u. GoesOn r u.p ⊎ JumpTo o e s r u.p) (at_address x (λ m. operated o m s r) r)
at_address_goes o e s r (Ok (Some m)) h = trapped (λ u. GoesOn r u.p ⊎ JumpTo o e s r u.p) (operated o m s r) (operated_goes o e m s r h)
at_address_goes o e s r (Ok None) h = tt
at_address_goes o e s r (Err f) h = tt

pub executed_goes : (i : Instruction) (keys : Keys) (s : Sight) (r : Registers) → After (λ u. GoesOn r u.p ⊎ Names i s r u.p) (executed i keys s r)
executed_goes instructions.Executive keys s r = tt
executed_goes instructions.Illegal keys s r = tt
executed_goes (instructions.Act a y) keys s r = acted_goes a keys y r
executed_goes (instructions.ReturnJump m) keys s r =
    let P : Registers → Type 0 = λ u. GoesOn r u.p ⊎ (u.p ≡ counted m 1) in
    trapped P (rtj m s r) (change_after P m s r (λ w r. with_low w (counted r.p 1)) (λ w r. with_p r (counted m 1)) (λ w. inr refl))
executed_goes (instructions.Search k i m) keys s r =
    let P : Registers → Type 0 = λ u. GoesOn r u.p ⊎ ⊥ in
    trapped P (searched k i m s r) (bound P (sought (suc r.b1.bits) s.reads (hits k r) m i.words r.b1.bits) (λ o. quiet (search_ended r o)) (λ o. inl (search_goes r o)))
executed_goes (instructions.Operate o e) keys s r = at_address_goes o e s r (effective 64 s.reads r e) refl

went_by : (s : Sight) (r : Registers) (w : Ones 24) (x : Result Done Trap) → After (λ u. GoesOn r u.p ⊎ Names (decoded w) s r u.p) x → (y : Result (Unit {0}) Trap) (r' : Registers)
    → s.reads r.p ≡ Ok w → y ≡ outcome x → r' ≡ left r x → Goes y s r r'
went_by s r w (Ok d) h y r' k e f = λ _. (w, k, rw f h)
went_by s r w (Err t) h y r' k e f = λ z. let z' : ◌≡◌ {A = ℕ} 0 1 = cc in absurd (omega arith)

-- an instruction that was carried out was fetched, and goes where it goes
went : (keys : Keys) (s : Sight) (r : Registers) (x : Result (Ones 24) Fault) (y : Result (Unit {0}) Trap) (r' : Registers) → s.reads r.p ≡ x
    → y ≡ outcome (bind (trapping x) (λ w. executed (decoded w) keys s r)) → r' ≡ left r (bind (trapping x) (λ w. executed (decoded w) keys s r)) → Goes y s r r'
went keys s r (Ok w) y r' h e f = went_by s r w (executed (decoded w) keys s r) (executed_goes (decoded w) keys s r) y r' h e f
went keys s r (Err t) y r' h e f = λ k. let z : ◌≡◌ {A = ℕ} 0 1 = cc in absurd (omega arith)

pub goes : (keys : Keys) (s : Sight) (r : Registers) (y : Result (Unit {0}) Trap) (r' : Registers) → y ≡ outcome (step keys s r) → r' ≡ left r (step keys s r) → Goes y s r r'
unfolding step
goes keys s r y r' e f = went keys s r (s.reads r.p) y r' refl e f
