-- One greatest length wherever a length is judged: by the laws of each place, and rooms by the bounds on what a party writes. Assumes nothing.
use mathlib.Core.Path.{◌≡◌, refl, sym, ap, ap₂, ◌∙◌}
use mathlib.Core.Logic.{◌≢◌}
use mathlib.Core.Bool.{Bool, true, false, cond, not, ◌&&◌, ◌||◌}
use mathlib.Core.List.{List, [], ◌∷◌, ◌++◌, map}
use Prim.Native.Nat.{ℕ, ◌+◌, ◌-◌, ◌*◌, ◌/◌, ◌%◌, ◌^◌, ◌≤◌, ◌<◌}
use native.Mathlib.Decide.{ℕ_discrete, dec_lt}
use native.Mathlib.Omega.{arith}
use borrow.Author.Tests.{lt-ltb, le-ltb, lt-leb, le-leb, ne_eqb, eqb-false}
use lib.Dec.{leb, ltb, eqb}
use lib.ListN.{length, take, drop, length-append, length-drop}
use lib.Seq.{take-append_seam, drop-append_seam, drop-drop, length-take-le}
use Rattle.limits.specs.Limits.{max_message, max_share, parties, numbered, group_cause}
use Rattle.limits.proofs.Group.{group_of}
use Rattle.limits.proofs.Ranges.{parties-some, numbered-range}
use Rattle.buffer.specs.Entries.{size, body, rest}
use Rattle.bitmap.specs.Bitmap.{names}
use Rattle.sha256.specs.Sha256.{sha256}
use Rattle.sha256.proofs.Laws.{sha256-length}
use Rattle.erasure.specs.Coding.{share_length, shares}
use Rattle.erasure.specs.Rebuild.{Point, Recovered, cause, message, framed, other, unframed, joined}
use Rattle.erasure.proofs.Frame.{unframed-frame}
use Rattle.merkle.specs.Tree.{shape, sides}
use Rattle.packet.specs.Format.{unreadable, shared, hashes, length_in, share_in, read_of}
use Rattle.packet.proofs.Reading.{share-empty, share-long, read-share, Readable, readable-read, read-readable}
use Rattle.commitment.proofs.Shared.{shares-bound, length-shares}
use Rattle.party.specs.State.{overlong, broken}
use Rattle.party.specs.Steps.{turn_of, open_of}
use Rattle.std.specs.Prelude.{Some, None}
use Rattle.party.specs.declared.Stage.{Stage}
use Rattle.party.specs.declared.Stage.TheVariants.{Root, Bit, First, Second, Ended}
use Rattle.party.specs.declared.Party.{Party}
use Rattle.party.proofs.Causes.{fit_of}
use Rattle.party.proofs.Progress.{result-short}
use Rattle.party.proofs.Ways.{Way, on, off, way}
use Rattle.agreement.specs.Calls.{Call, agree_root, agree_bit, take_shares, take_relays, step_of, made}
use Rattle.state_bytes.specs.Layout.{state_length, state_of}
use Rattle.capi.specs.Calls.{packed, open_call}
use Rattle.capi.proofs.Small.{outbox-small, relay-small}
use Rattle.claims.specs.Terms.{when, foremost, group_then, lent, wrong, due, room_for, result_length, unless}
use Rattle.claims.specs.LongestBook.{BooksHaveOneGreatestLength}
use Rattle.claims.proofs.Steps.{wrong-not-nine}
use Rattle.claims.proofs.Hosts.{upper, every-call-tells-its-outcome as tells}

-- where causes 1 and 2 do not apply, the causes behind them are told
grouped : (n t : ℕ) (ks : List ℕ) → group_cause n t ≡ 0 → group_then n t ks ≡ foremost ks
unfolding foremost
grouped n t ks e = let g = group_of n t e in rw (parties-some n g.low g.high, lt-leb n (2 * t) g.faults)

last : (k : ℕ) → foremost (k ∷ []) ≡ k
unfolding foremost
last k = elim (ℕ_discrete k 0) [
  | yes e ↦ rw e
  | no d ↦ rw (ne_eqb k 0 d)
]

opening-judged : (session n t own : ℕ) (m : List ℕ) → group_cause n t ≡ 0 → numbered n own ≡ true → (open_of sha256 session n t own m).cause ≡ when 4 (ltb max_message (length m))
unfolding foremost
opening-judged session n t own m e o =
    (tells.opening session n t own m).cause ∙ grouped n t (when 3 (not (numbered n own)) ∷ when 4 (ltb max_message (length m)) ∷ []) e
    ∙ rw o (last (when 4 (ltb max_message (length m))))

long-frame : (b s : ℕ) (us : List Point) → max_message < size (framed b s us) → joined b s us ≡ cause 12
unfolding joined unframed
long-frame b s us h =
    let f : List ℕ = framed b s us in
    rw (lt-ltb max_message (size f) h)
    (go (other s (map (λ (p : Point). length p.share) us)) (ltb (length f) 2) (not (eqb s (share_length b (size f)))) (other 0 (rest f)) (body f))
  where
    go : (a c d e : Bool) (m : List ℕ) → ◌≡◌ {A = Recovered} (cond a (cause 12) (cond (c || true || d || e) (cause 12) (message m))) (cause 12)
    go true c d e m = refl
    go false true d e m = refl
    go false false d e m = refl

-- a packet with a share and the bytes of a path
module _ (n j : ℕ) (x r : List ℕ) where
  abbrev packet : List ℕ
  packet = 7 ∷ j ∷ length x / 256 ∷ length x % 256 ∷ (x ++ r)

  abbrev k : ℕ
  k = length (sides (shape n) (j - 1))

  stated : length_in packet ≡ length x
  stated = omega arith

  read_whole : numbered n j ≡ true → length r ≡ 32 * k → 1 ≤ length x → length x ≤ max_share → read_of n packet ≡ shared j x (hashes k r)
  read_whole o w some short =
      let (first, last) = numbered-range n j o in
      let s : Readable n packet = record {
        heads = omega arith;
        map = refl;
        first = first;
        last = last;
        some = omega (arith, stated);
        short = omega (arith, stated);
        whole = omega (arith, stated, length-append x r, w);
      } in
      let ours : take (length_in packet) (x ++ r) ≡ x = ap (λ (i : ℕ). take i (x ++ r)) stated ∙ take-append_seam x r in
      let theirs : drop (4 + length_in packet) packet ≡ r =
      sym (drop-drop (length_in packet) 4 packet) ∙ ap (λ (i : ℕ). drop i (x ++ r)) stated ∙ drop-append_seam x r in
      readable-read n packet s ∙ ap₂ (λ (y p : List ℕ). shared j y (hashes k p)) ours theirs

  read-judged : numbered n j ≡ true → length r ≡ 32 * k
      → read_of n packet ≡ cond (leb 1 (length x) && leb (length x) max_share) (shared j x (hashes k r)) unreadable
  read-judged o w = go (dec_lt (length x) 1) (dec_lt max_share (length x))
    where
      seven : read_of n packet ≡ share_in n packet
      seven = read-share n packet (omega arith) refl

      go : Dec (length x < 1) → Dec (max_share < length x)
          → read_of n packet ≡ cond (leb 1 (length x) && leb (length x) max_share) (shared j x (hashes k r)) unreadable
      go (yes a) b = rw (lt-leb 1 (length x) a) (seven ∙ share-empty n packet (omega (arith, stated)))
      go (no a) (yes b) =
          rw (le-leb 1 (length x) (omega arith), lt-leb (length x) max_share b) (seven ∙ share-long n packet (omega (arith, stated)))
      go (no a) (no b) =
          rw (le-leb 1 (length x) (omega arith), le-leb (length x) max_share (omega arith)) (read_whole o w (omega arith) (omega arith))

share-read : (n j : ℕ) (w x : List ℕ) (p : List (List ℕ)) → read_of n w ≡ shared j x p → (1 ≤ length x) × (length x ≤ max_share)
share-read n j w x p e =
    let (s, parts) = read-readable n w j x p e in
    let y : take (length_in w) (drop 4 w) ≡ x = cc in
    let l : length (take (length_in w) (drop 4 w)) ≡ length_in w =
    length-take-le (length_in w) (drop 4 w) (omega (arith, s.whole, length-drop 4 w)) in
    let same : length x ≡ length_in w = sym (ap length y) ∙ l in
    (omega (arith, same, s.some), omega (arith, same, s.short))

state-judged : (x : Party) → group_cause x.seat.n x.seat.t ≡ 0 → numbered x.seat.n x.seat.own ≡ true
    → broken x ≡ (ltb max_message x.len || ltb max_share x.held || (not (ltb x.faulty (2 ^ x.seat.n)) || names x.faulty x.seat.own)
    || ltb max_message (result_length x.stage))
unfolding broken
state-judged x e o = rw (e, o, over x.stage)
  where
    over : (s : Stage) → overlong s ≡ ltb max_message (result_length s)
    over Root = refl
    over Bit = refl
    over First = refl
    over Second = refl
    over (Ended None) = refl
    over (Ended (Some l)) = refl

-- what a step writes fits its room
due-fits : (x : Party) (c : Call) → broken x ≡ false → length (due x c) ≤ room_for c
due-fits x (agree_root z) w = omega arith
due-fits x (agree_bit bit out) w = outbox-small sha256 sha256-length x (fit_of x w) bit
due-fits x (take_shares inbox out) w = relay-small sha256 sha256-length x (fit_of x w) inbox
due-fits x (take_relays inbox out) w = result-short sha256 x w inbox

room-enough : (x : Party) (c : Call) → room_for c ≤ length (lent c) → (made sha256 x c).cause ≢ 9
unfolding foremost
room-enough x c h q = go (way (broken x)) (not (eqb (turn_of x.stage) (step_of c))) (wrong x c) (wrong-not-nine x c) (sym (tells.step x c).cause ∙ q)
  where
    short : Bool
    short = ltb (length (lent c)) (length (due x c))

    wrongs : (a : Bool) (k : ℕ) → eqb k 9 ≡ false → foremost (when 6 a ∷ k ∷ 0 ∷ []) ≡ 9 → ⊥
    wrongs true k d e = omega arith
    wrongs false k d e = elim (ℕ_discrete k 0) [
      | yes z ↦ let f : ◌≡◌ {A = ℕ} 0 9 = rw z at e in omega arith
      | no z ↦ eqb-false k 9 d (rw (ne_eqb k 0 z) at e)
    ]

    go : Way (broken x) → (a : Bool) (k : ℕ) → eqb k 9 ≡ false → foremost (when 5 (broken x) ∷ when 6 a ∷ k ∷ when 9 short ∷ []) ≡ 9 → ⊥
    go (on b) a k d e = let f : ◌≡◌ {A = ℕ} 5 9 = rw b at e in omega arith
    go (off b) a k d e =
        let fits : short ≡ false = le-ltb (length (lent c)) (length (due x c)) (omega (arith, due-fits x c b, h)) in
        wrongs a k d (rw (b, fits) at e)

-- an opening on bytes
opening-room : (session n t own : ℕ) (m s z : List ℕ) → state_length ≤ length s → 32 ≤ length z → (open_call sha256 session n t own m s z).number / 2 ^ 32 ≢ 9
unfolding foremost
opening-room session n t own m s z a b q = go (ℕ_discrete (open_of sha256 session n t own m).cause 0)
  where
    told : (open_call sha256 session n t own m s z).number ≡ cond (eqb (open_of sha256 session n t own m).cause 0) (packed 0 32) (packed (open_of sha256 session n t own m).cause 0)
    told = (tells.host-opening session n t own m s z).number ∙ rw (le-ltb (length s) state_length a, le-ltb (length z) 32 b)

    never : (a b c d : Bool) → foremost (when 1 a ∷ when 2 b ∷ when 3 c ∷ when 4 d ∷ []) ≡ 9 → ⊥
    never true b c d e = omega arith
    never false true c d e = omega arith
    never false false true d e = omega arith
    never false false false true e = omega arith
    never false false false false e = omega arith

    go : Dec ((open_of sha256 session n t own m).cause ≡ 0) → ⊥
    go (yes e) = let f : packed 0 32 / 2 ^ 32 ≡ 9 = sym (ap (λ (i : ℕ). i / 2 ^ 32) (told ∙ rw e)) ∙ q in omega (arith, upper 0 32 (omega arith), f)
    go (no d) =
        let f : packed (open_of sha256 session n t own m).cause 0 / 2 ^ 32 ≡ 9 =
        sym (ap (λ (i : ℕ). i / 2 ^ 32) (told ∙ rw (ne_eqb (open_of sha256 session n t own m).cause 0 d))) ∙ q in
        never (not (parties n)) (leb n (2 * t)) (not (numbered n own)) (ltb max_message (length m))
        (sym (tells.opening session n t own m).cause ∙ sym (upper (open_of sha256 session n t own m).cause 0 (omega arith)) ∙ f)

pub books-have-one-greatest-length : BooksHaveOneGreatestLength
unfolding foremost
books-have-one-greatest-length =
    record {
      two-more = refl;
      opening = opening-judged;
      coder = λ n t m out e. tells.shares n t m out
          ∙ ap (λ (i : ℕ). unless i (shares n (n - t) m) out) (grouped n t (when 4 (ltb max_message (length m)) ∷ []) e ∙ last (when 4 (ltb max_message (length m))));
      frames = unframed-frame;
      long-frames = long-frame;
      packets = read-judged;
      read = share-read;
      state = state-judged;
      room = room-enough;
      host-room = λ s c h q. let t = (tells.host-step s c).number in
          room-enough (state_of s) c h (sym (ap (λ (i : ℕ). i / 2 ^ 32) t.0 ∙ upper (made sha256 (state_of s) c).cause _ t.1) ∙ q);
      host-opening = opening-room;
      shares-room = λ n t m e h. let g = group_of n t e in
          omega (arith, length-shares n (n - t) m, shares-bound n t (length m) g.faults g.high h);
    }
