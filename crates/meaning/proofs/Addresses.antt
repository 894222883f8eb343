-- The evaluation over addresses of a sound rule, and the run of its code.
use Rattle.std.proofs.Common.{◌≡◌, ℕ, suc, ◌+◌, ◌^◌, ◌<◌, ◌≤◌, Bool, true, false, cond, T, eqb, leb, List, [], ◌∷◌, ◌++◌, length, replicate, ℤ, pos, sym, refl, ap, ◌∙◌, subst, arith, eqb→eq, leb→le}
use lib.ListN.{length-replicate}
use lib.Dec.{eqb_refl}
use Rattle.std.proofs.lemmas.List.{append_assoc, length_push}
use Rattle.machine.specs.declared.instruction.Instruction.{Instruction}
use Rattle.machine.specs.declared.instruction.Instruction.TheVariants.{Pop, Stop}
use Rattle.meaning.specs.Rule.{Block}
use Rattle.meaning.specs.Rule as Rule
use Rattle.machine.specs.Host.{Host}
use Rattle.meaning.specs.Evaluation.{World, Outcome, done, cut, fault, ◌>>=◌, ◌>>◌, charge, take_frame, ranked, evaluated, frame_size, block_extent, zeroed}
use Rattle.machine.specs.Machine.{Machine, goes, fails, going, finished, failed, Run, fetched, after, effect, run, opened}
use Rattle.meaning.specs.Code.{block, procs_block, block_length, program}
use Rattle.meaning.specs.Sound.{Sound}
use Rattle.meaning.specs.Halves.{Follows, AddressesAgree}
use Rattle.meaning.specs.Sizes.{own_cells}
use Rattle.meaning.proofs.Cells.{mem_outer, patched_length}
use Rattle.meaning.proofs.Tracks.{Setting, St, tick, mach, Ends, ends_bind, charged, stays_to}
use Rattle.meaning.proofs.Scopes.{Sits, sits_left, sits_right, sits_at, fetched_at}
use Rattle.meaning.proofs.Lengths.{block_long}
use Rattle.meaning.proofs.ExpressionRuns.{plain}
use Rattle.meaning.proofs.Rows.{last}
use Rattle.meaning.proofs.CallRuns.{Ready, Act}
use Rattle.meaning.proofs.ActionRuns.{ranked_ok}

sits_all : (C pre c : List Instruction) → C ≡ pre ++ c → Sits C c (length pre)
sits_all C pre [] e = tt
sits_all C pre (x ∷ c) e = (
  ap (λ (d : List Instruction). fetched d (length pre)) e ∙ fetched_at pre c x,
  subst (λ (k : ℕ). Sits C c k) (length_push pre x ∙ more (length pre)) (sits_all C (pre ++ (x ∷ [])) c (e ∙ sym (append_assoc pre (x ∷ []) c))),
)
  where
    more : (k : ℕ) → k + 1 ≡ suc k
    more k = omega arith

own_within : (b : Block) → own_cells b ≤ block_extent b
own_within (Rule.block ds xs) = omega arith

module _ (b : Block) (sound : Sound b) (cs : List ℤ) (small : length cs < 2 ^ 31) (h : Host) (n : ℕ) where
  g : Setting
  g = record { b = b; code = program b; R = λ k. run (program b) k (opened cs h); n = n; step = λ k. refl }

  abbrev w₀ : World
  w₀ = record { cells = cs; top = 0; host = h; count = 0 }

  abbrev w₂ : World
  w₂ = record { cells = zeroed cs 0 (frame_size [] b); top = 0 + frame_size [] b; host = h; count = 1 }

  abbrev Q : Unit {0} → World → Type 0
  Q _ w = Follows b (done tt w) (run (program b) n (opened cs h))

  whole : Sits (program b) (program b) 0
  whole = sits_all (program b) [] (program b) refl

  stop : Sits (program b) (Stop ∷ procs_block b [] 0 2 (block_length b + 3)) (2 + block_length b)
  stop = sits_right (program b) (block b [] 0 2 2 (block_length b + 3)) (Stop ∷ procs_block b [] 0 2 (block_length b + 3)) 2 (block_length b) (block_long b [] [] 0 2 2 (block_length b + 3) tt sound.fits) whole.1.1

  ready : Ready g (replicate 9 0) [] (0 + frame_size [] b) [] [] [] 0 2 2
  ready = record { rel = tt; below = tt; nine = refl; free_is = refl }

  body : Act g [] (0 + frame_size [] b) [] [] 0 2 2 2 (block_length b + 3) (Rule.inner b)
  unfolding g
  body = record {
    code = sits_left (program b) (block b [] 0 2 2 (block_length b + 3)) (Stop ∷ procs_block b [] 0 2 (block_length b + 3)) 2 whole.1.1;
    procs = sits_at (program b) (procs_block b [] 0 2 (block_length b + 3)) (suc (2 + block_length b)) (block_length b + 3) (omega arith) stop.1;
    fits = sound.fits;
    need = sound.needs;
    room = omega arith;
    off = λ i p q. tt;
  }

  -- the end
  end_ok : (w : World) → St g (replicate 9 0) [] (0 + frame_size [] b) 0 [] (2 + block_length b) w → Ends g (charge n w) Q
  unfolding g
  end_ok w st = last g (replicate 9 0) [] (0 + frame_size [] b) 0 Q w
      (charged g (replicate 9 0) [] (0 + frame_size [] b) 0 [] (2 + block_length b) w st Q (λ v. done tt v) Stop stop.0
      (λ l e. let r : run (program b) n (opened cs h) ≡ after (effect Stop m) w.count m = stays_to g (suc w.count) finished (λ r. refl) (ap (λ (r : Run). r.standing) e) l ∙ e in
      rw r (refl, record { count = refl; host = refl; variables = mem_outer (own_cells b) [] (0 + frame_size [] b) st.cells w.cells st.mem })))
    where
      m : Machine
      m = mach w [] (replicate 9 0) (2 + block_length b) st.cells

  -- from the frame on
  framed_ok : length (zeroed cs 0 (frame_size [] b)) ≡ length cs → 0 + frame_size [] b ≤ length cs → 1 ≤ n →
      run (program b) 1 (opened cs h) ≡ record { standing = going; count = 1; machine = mach w₂ (pos 0 ∷ []) (replicate 9 0) 1 (zeroed cs 0 (frame_size [] b)) } →
      Ends g ((charge n >> (ranked n (suc n) (Rule.inner b) [] 2 >> charge n)) w₂) Q
  unfolding g
  framed_ok long fits one e =
      plain g (replicate 9 0) [] (0 + frame_size [] b) 0 Q (ranked n (suc n) (Rule.inner b) [] 2 >> charge n) (pos 0 ∷ []) 1 w₂ st Pop whole.1.0 [] 2 refl refl
      (λ st'. ends_bind g (λ _. St g (replicate 9 0) [] (0 + frame_size [] b) 0 [] (2 + block_length b)) Q (ranked n (suc n) (Rule.inner b) [] 2) (λ _. charge n) (tick w₂)
      (ranked_ok g (suc n) (replicate 9 0) [] (0 + frame_size [] b) 0 [] [] [] 0 2 2 ready (omega arith) (Rule.inner b) 2 (block_length b + 3) body (tick w₂) st')
      (λ _ v s. end_ok v s))
    where
      st : St g (replicate 9 0) [] (0 + frame_size [] b) 0 (pos 0 ∷ []) 1 w₂
      st = record {
        cells = zeroed cs 0 (frame_size [] b);
        is = e;
        mem = record { len = refl; small = rw long small; fits = rw long fits; same = λ a l f. refl; under = tt; kept = tt; outer = λ i p q. tt; reach = omega (arith, own_within b) };
        top_is = refl;
        low_is = omega arith;
        bound = one;
      }

  agrees : (o : Outcome Unit) → Ends g o Q → Follows b o (run (program b) n (opened cs h))
  unfolding g
  agrees (done tt w) e = e
  agrees (cut w) e = e
  agrees (fault f w) e = e

  m₀ : Machine
  m₀ = record { operands = []; bases = replicate 9 0; next = 0; top = 0; cells = cs; host = h }

  rest : ℕ → World → Outcome Unit
  rest = λ start. charge n >> (ranked n (suc n) (Rule.inner b) [] (start + 2) >> charge n)

  -- the frame, if there is room for it
  frame_ok : 0 < n → (v : Bool) → leb (0 + frame_size [] b) (length cs) ≡ v →
      run (program b) 1 (opened cs h) ≡ after (cond v (goes (mach w₂ (pos 0 ∷ []) (replicate 9 0) 1 (zeroed cs 0 (frame_size [] b)))) (fails 27)) 0 m₀ →
      Ends g (elim (elim v as (λ x. Outcome ℕ) [ true ↦ done 0 w₂ | false ↦ fault 27 (tick w₀) ]) as (λ x. Outcome Unit) [ done a v ↦ rest a v | cut v ↦ cut v | fault e v ↦ fault e v ]) Q
  unfolding g m₀ rest
  frame_ok one true q e =
      framed_ok (patched_length cs 0 (replicate (frame_size [] b) (pos 0)) (frame_size [] b) (length-replicate (frame_size [] b) (pos 0)) fits) fits one e
    where
      fits : 0 + frame_size [] b ≤ length cs
      fits = leb→le (0 + frame_size [] b) (length cs) (subst T (sym q) tt)
  frame_ok one false q e =
      let r : run (program b) n (opened cs h) ≡ after (fails 27) 0 m₀ = stays_to g 1 (failed 27) (λ r. refl) (ap (λ (r : Run). r.standing) e) one ∙ e in
      rw r (refl, record { count = refl; host = refl; variables = refl })

  start_ok : (v : Bool) → eqb 0 n ≡ v →
      Ends g (elim (elim v as (λ x. Outcome Unit) [ true ↦ cut w₀ | false ↦ done tt (tick w₀) ]) as (λ x. Outcome Unit) [ done a v ↦ (take_frame n (frame_size [] b) >>= rest) v | cut v ↦ cut v | fault e v ↦ fault e v ]) Q
  unfolding g m₀ rest
  start_ok true q =
      let e : 0 ≡ n = eqb→eq 0 n (subst T (sym q) tt) in
      let r : run (program b) n (opened cs h) ≡ opened cs h = ap (λ (k : ℕ). run (program b) k (opened cs h)) (sym e) in
      rw r (refl, record { count = refl; host = refl; variables = refl })
  start_ok false q = frame_ok one (leb (0 + frame_size [] b) (length cs)) refl refl
    where
      below : (0 ≡ n → ⊥) → 0 < n
      below f = omega arith

      one : 0 < n
      one = below (λ c. subst T q (subst (λ (x : ℕ). T (eqb x n)) (sym c) (eqb_refl n)))

  pub agree : Follows b (evaluated n b cs h) (run (program b) n (opened cs h))
  unfolding rest
  agree = agrees (evaluated n b cs h) (start_ok (eqb 0 n) refl)

pub addresses_agree : AddressesAgree
addresses_agree b sound cs small h n = agree b sound cs small h n
