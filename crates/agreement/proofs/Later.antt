-- What a party's later calls can and cannot change. Every accepted step 5 gave the result that the state holds after the list; and once it holds one,
-- whatever the party is called with, its result and map stay, no byte is sent and no string is hashed. By the laws of lists and of an ended party's calls.
-- Assumes nothing.
use mathlib.Core.Path.{◌≡◌, refl, sym, ap, ◌∙◌}
use mathlib.Core.List.{List, [], ◌∷◌, ◌++◌, append-nil, append_assoc, Memᴰ}
use mathlib.Core.Option.{some}
use Prim.Native.Nat.{ℕ, ◌+◌, ◌-◌}
use native.Mathlib.Omega.{arith}
use lib.Dec.{eqb}
use Rattle.erasure.specs.Coding.{shares}
use Rattle.merkle.specs.Shares.{coding_strings}
use Rattle.party.specs.State.{Result, result_in}
use Rattle.party.specs.declared.Party.{Party}
use Rattle.party.proofs.Ways.{Way, on, off, way}
use Rattle.agreement.specs.Calls.{Call, step_of, Event, accepted, written_by, sent_in, sent_over, made, strings_over, events, final}
use Rattle.agreement.specs.Calls.{checked_in, checked_over, judged_in, judged_over, recoded_in, recoded_over}
use Rattle.agreement.specs.Calls.{opening, did, result_after, opened_and_checked, judged, recoded, sent_by}
use Rattle.agreement.proofs.Run.{event, chain, Still, still, gave-held}

accepted-both : (es fs : List Event) → accepted (es ++ fs) ≡ accepted es ++ accepted fs
unfolding accepted
accepted-both [] fs = refl
accepted-both (e ∷ es) fs = go (way (eqb e.reply.cause 0)) (accepted-both es fs)
  where
    go : Way (eqb e.reply.cause 0) → accepted (es ++ fs) ≡ accepted es ++ accepted fs
        → accepted (e ∷ (es ++ fs)) ≡ accepted (e ∷ es) ++ accepted fs
    go (on y) r = rw y (ap (λ (l : List Event). e ∷ l) r)
    go (off y) r = rw y r

sent-both : (n : ℕ) (es fs : List Event) → sent_over n (es ++ fs) ≡ sent_over n es + sent_over n fs
unfolding sent_over
sent-both n [] fs = omega arith
sent-both n (e ∷ es) fs =
    ap (λ (k : ℕ). sent_in n e.call (written_by e) + k) (sent-both n es fs) ∙ omega arith

strings-both : (of : Party → Call → List (List ℕ)) (es fs : List Event) → strings_over of (es ++ fs) ≡ strings_over of es ++ strings_over of fs
unfolding strings_over
strings-both of [] fs = refl
strings-both of (e ∷ es) fs =
    ap (λ (l : List (List ℕ)). of e.before e.call ++ l) (strings-both of es fs)
    ∙ sym (append_assoc (of e.before e.call) (strings_over of es) (strings_over of fs))

module _ (H : List ℕ → List ℕ) where
  final-both : (x : Party) (cs ds : List Call) → final H x (cs ++ ds) ≡ final H (final H x cs) ds
  unfolding final
  final-both x [] ds = refl
  final-both x (c ∷ cs) ds = final-both (made H x c).state cs ds

  events-both : (x : Party) (cs ds : List Call) → events H x (cs ++ ds) ≡ events H x cs ++ events H (final H x cs) ds
  unfolding events final
  events-both x [] ds = refl
  events-both x (c ∷ cs) ds = ap (λ (l : List Event). event H x c ∷ l) (events-both (made H x c).state cs ds)

  -- the accepted calls of a list that goes on
  pub did-both : (session n t i : ℕ) (m : List ℕ) (calls more : List Call) → did H session n t i m (calls ++ more)
      ≡ did H session n t i m calls ++ accepted (events H (final H (opening H session n t i m).state calls) more)
  unfolding did
  did-both session n t i m calls more =
      let x = (opening H session n t i m).state in
      ap accepted (events-both x calls more) ∙ accepted-both (events H x calls) (events H (final H x calls) more)

  module _ (session n t i : ℕ) (m : List ℕ) (calls : List Call) (r : Result) (h : result_after H session n t i m calls ≡ some r) where
    pub gave : (e : Event) → Memᴰ e (did H session n t i m calls) → step_of e.call ≡ 5 → e.reply.result ≡ some r
    unfolding did
    gave e k five =
        let x = (opening H session n t i m).state in
        let g = gave-held H x (final H x calls) (accepted (events H x calls)) (chain H x calls) e k five in
        g.is ∙ sym g.held ∙ h

    -- further calls
    module _ (more : List Call) where
      abbrev ended : Party
      ended = final H (opening H session n t i m).state calls

      abbrev rest : List Event
      rest = accepted (events H ended more)

      stays : Still H n r ended.faulty rest (final H ended more)
      stays = still H n ended (final H ended more) rest r h (chain H ended more)

      pub later-result : result_after H session n t i m (calls ++ more) ≡ some r
      later-result = ap result_in (final-both (opening H session n t i m).state calls more) ∙ stays.0

      pub later-map : (final H (opening H session n t i m).state (calls ++ more)).faulty ≡ ended.faulty
      later-map = ap (λ (x : Party). x.faulty) (final-both (opening H session n t i m).state calls more) ∙ stays.5

      pub later-sent : sent_by H session n t i m (calls ++ more) ≡ sent_by H session n t i m calls
      unfolding sent_by
      later-sent =
          ap (sent_over n) (did-both session n t i m calls more) ∙ sent-both n (did H session n t i m calls) rest ∙ omega (arith, stays.1)

      pub later-checked : opened_and_checked H session n t i m (calls ++ more) ≡ opened_and_checked H session n t i m calls
      unfolding opened_and_checked
      later-checked =
          ap (λ (l : List (List ℕ)). coding_strings H session n (shares n (n - t) m) ++ l)
          (ap (checked_over H) (did-both session n t i m calls more) ∙ strings-both (checked_in H) (did H session n t i m calls) rest
          ∙ ap (λ (l : List (List ℕ)). checked_over H (did H session n t i m calls) ++ l) stays.2
          ∙ append-nil (checked_over H (did H session n t i m calls)))

      pub later-judged : judged H session n t i m (calls ++ more) ≡ judged H session n t i m calls
      unfolding judged
      later-judged =
          ap (judged_over H) (did-both session n t i m calls more) ∙ strings-both (judged_in H) (did H session n t i m calls) rest
          ∙ ap (λ (l : List (List ℕ)). judged_over H (did H session n t i m calls) ++ l) stays.3
          ∙ append-nil (judged_over H (did H session n t i m calls))

      pub later-recoded : recoded H session n t i m (calls ++ more) ≡ recoded H session n t i m calls
      unfolding recoded
      later-recoded =
          ap (recoded_over H) (did-both session n t i m calls more) ∙ strings-both (recoded_in H) (did H session n t i m calls) rest
          ∙ ap (λ (l : List (List ℕ)). recoded_over H (did H session n t i m calls) ++ l) stays.4
          ∙ append-nil (recoded_over H (did H session n t i m calls))
