-- Each step of a pass keeps the rule of its queue.
use Rattle.std.proofs.Common.{◌≡◌, ◌≢◌, ◌⊎◌, ℕ, zero, suc, ◌+◌, ◌<◌, ◌≤◌, Bool, true, false, cond, eqb, List, [], ◌∷◌, ◌++◌, length, set, refl, sym, ap, ◌∙◌, subst, inl, inr, ⊎_elim, arith, Option, Some, None, eq-eqb, append-nil, length-append}
use Rattle.std.specs.Prelude.{All, slice_get}
use Rattle.std.proofs.lemmas.Bool.{eqb-true, ne_eqb}
use Rattle.std.proofs.lemmas.List.Elements.{filter-append, All-head, All-tail, All-same, All-weaker}
use mathlib.Core.Option.{some, some-injective, some-ne-none}
use lib.ListN.{get_elem?}
use Rattle.crossbeam_queue.specs.Fifo.{Pushes, Pops, Forks, Merges, Learns}
use Rattle.crossbeam_queue.proofs.Lists.{at_set}
use Rattle.hub_envelope.specs.declared.envelope.Envelope.{Envelope}
use Rattle.hub_core.specs.Sender.{by}
use Rattle.hub_core.specs.QueueMachine.{Queue, new_queue, IsNamed, MayPush, pushed, pop_of, IsQueue}
use Rattle.hub_core.proofs.Queueing.{at_first_queue, after_push, after_pop, prove_queue_laws}
use Rattle.hub_core.proofs.Items.{some_is, none_got}
use Rattle.hub_envelope.specs.declared.limits.TheConstants.{MAX_PUT}
use Rattle.hub_queue.specs.declared.store.PutView.{PutView}
use Rattle.hub_queue.specs.declared.store.TakeView.{TakeView}
use Rattle.hub_queue.specs.declared.store.PassView.{PassView}
use Rattle.hub_queue.specs.declared.store.PassView.TheVariants.{Takes, Puts, Both, Spent}
use Rattle.hub_queue.specs.SharedQueue.{SharedQueue, IsPutter, IsTakenIn, IsTaker, KnowsQueue, ShowsQueue, first_view}
use Rattle.hub_queue.specs.PassSteps.{put_more, refused_more, refusal_counted, no_more, got_more, cut_more, next_put, known_more, after_put, after_take, taker_left, line_cut, taken_in, TellsOf, IsPopped, ShowsHeld, AccountsFor, Learnt}

-- what a step of other passes leaves
pub record Spares (q q' : SharedQueue) (Other : ℕ → Type 0) : Type 0 where
  pub name : 0 < q.lines → (q'.end ≡ q.end) × (q'.epoch ≡ q.epoch)
  pub more : q.lines ≤ q'.lines
  pub line : (l pass : ℕ) → Other pass → q.pass_of l ≡ Some pass → (q'.pass_of l ≡ Some pass) × (q'.state.put l ≡ q.state.put l)
  pub no_pass : (l : ℕ) → l < q.lines → q.pass_of l ≡ None → (q'.pass_of l ≡ None) × (q'.state.put l ≡ q.state.put l)
  pub taker : (pass : ℕ) → Other pass → pass ≡ q.taker → (q'.taker ≡ q.taker) × (q'.end ≡ q.end) × (q'.epoch ≡ q.epoch) × (q'.lines ≡ q.lines) × (q'.state.got ≡ q.state.got)

module _ (q q' : SharedQueue) (Other : ℕ → Type 0) (spares : Spares q q' Other) where
  putter_stays : (pass : ℕ) (v : PutView) → Other pass → IsPutter q pass v → IsPutter q' pass v
  putter_stays pass v other k =
      let within = k.within in
      let more = spares.more in
      let same = spares.line v.line pass other k.stands in
      let name = spares.name (omega arith) in
      record { within = omega arith; stands = same.0; end = k.end ∙ sym name.0; epoch = k.epoch ∙ sym name.1; put = k.put ∙ sym same.1 }

  pub taken_stays : (k : PutView) → IsTakenIn q k → IsTakenIn q' k
  taken_stays k was =
      let within = was.within in
      let more = spares.more in
      let same = spares.no_pass k.line within was.no_pass in
      record { within = omega arith; no_pass = same.0; put = was.put ∙ sym same.1 }

  taker_stays : (pass : ℕ) (t : TakeView) → Other pass → IsTaker q pass t → IsTaker q' pass t
  taker_stays pass t other k =
      let same = spares.taker pass other k.stands in
      record { stands = k.stands ∙ sym same.0; end = k.end ∙ sym same.1; epoch = k.epoch ∙ sym same.2; lines = k.lines ∙ sym same.3; got = k.got ∙ sym same.4; known = λ i u there. taken_stays u (k.known i u there) }

  pub stays : (pass : ℕ) (v : PassView) → Other pass → KnowsQueue q pass v → KnowsQueue q' pass v
  stays pass (Takes t) other k = taker_stays pass t other k
  stays pass (Puts v) other k = putter_stays pass v other k
  stays pass (Both t v) other k = (taker_stays pass t other k.0, putter_stays pass v other k.1)
  stays pass Spent other k = tt

-- what holds of all holds of the one between
all_at : (P : Envelope → Type 0) (xs : List Envelope) (x : Envelope) (ys : List Envelope) → All P (xs ++ x ∷ ys) → P x
all_at P [] x ys h = All-head P x ys h
all_at P (z ∷ xs) x ys h = all_at P xs x ys (All-tail P z (xs ++ x ∷ ys) h)

-- what all passes know
abbrev pub KnowAll : SharedQueue → List PassView → Type 0
KnowAll q views = (pass : ℕ) (v : PassView) → get_elem? views pass ≡ some v → KnowsQueue q pass v

-- one pass has another view
pub know_set : (q' : SharedQueue) (views : List PassView) (id : ℕ) (w : PassView) → KnowsQueue q' id w → ((j : ℕ) (v : PassView) → j ≢ id → get_elem? views j ≡ some v → KnowsQueue q' j v) → KnowAll q' (set views id w)
know_set q' views id w mine others j v there = ⊎_elim
    (λ me. subst (λ (u : PassView). KnowsQueue q' j u) me.1 (subst (λ (i : ℕ). KnowsQueue q' i w) (sym me.0) mine))
    (λ other. others j v other.0 other.1)
    (at_set views id j w v there)

-- what stands in a list with one more at its end
at_end : {A : Type 0} (l : List A) (a b : A) (j : ℕ) → get_elem? (l ++ a ∷ []) j ≡ some b → (get_elem? l j ≡ some b) ⊎ ((j ≡ length l) × (a ≡ b))
at_end [] a b zero e = inr (refl, some-injective a b e)
at_end [] a b (suc j) e = absurd (some-ne-none b (sym e))
at_end (x ∷ xs) a b zero e = inl e
at_end (x ∷ xs) a b (suc j) e = ⊎_elim (λ t. inl t) (λ t. inr (ap suc t.0, t.1)) (at_end xs a b j e)

-- a new pass joins at the end
pub know_snoc : (q' : SharedQueue) (views : List PassView) (w : PassView) → KnowAll q' views → KnowsQueue q' (length views) w → KnowAll q' (views ++ w ∷ [])
know_snoc q' views w all mine j v there = ⊎_elim
    (λ old. all j v old)
    (λ new. subst (λ (u : PassView). KnowsQueue q' j u) new.1 (subst (λ (i : ℕ). KnowsQueue q' i w) (sym new.0) mine))
    (at_end views w v j there)

abbrev new_shared : SharedQueue
new_shared = record { end = 0; epoch = 0; lines = 0; state = new_queue; taker = 0; pass_of = λ line. None }

first_knows : KnowAll new_shared (first_view ∷ [])
first_knows zero v there = subst (λ (u : PassView). KnowsQueue new_shared 0 u) (some-injective first_view v there) (record { stands = refl; end = refl; epoch = refl; lines = refl; got = refl; known = λ i k none. none_got k none })
first_knows (suc j) v there = absurd (some-ne-none v (sym there))

pub begins : ShowsQueue [] (first_view ∷ [])
begins = record {
  shared = new_shared;
  is_queue = at_first_queue 0 0 0;
  held = refl;
  unused = λ line past. refl;
  few = λ line. omega arith;
  knows = first_knows;
}

-- what a push puts on the lines
put_at : (s : Queue) (x : Envelope) (line : ℕ) → x.line.0 ≡ line → (pushed s x).put line ≡ s.put line ++ x ∷ []
put_at s x line e = ap (λ (b : Bool). cond b (s.put line ++ x ∷ []) (s.put line)) (eq-eqb x.line.0 line e)

put_off : (s : Queue) (x : Envelope) (line : ℕ) → x.line.0 ≢ line → (pushed s x).put line ≡ s.put line
put_off s x line ne = ap (λ (b : Bool). cond b (s.put line ++ x ∷ []) (s.put line)) (ne_eqb x.line.0 line ne)

-- a pass pushes an envelope of its line, which bears the next number
module _ (id : ℕ) (v : PutView) (x : Envelope) (end : x.end.0 ≡ v.end) (epoch : x.epoch ≡ v.epoch) (line : x.line.0 ≡ v.line) (number : x.number ≡ length v.put) (room : length v.put < MAX_PUT) (items : List Envelope) (views : List PassView) (h : ShowsQueue items views) (at : get_elem? views id ≡ some (Puts v)) where
  abbrev put_q : SharedQueue
  put_q = h.shared

  abbrev put_q' : SharedQueue
  put_q' = record { end = put_q.end; epoch = put_q.epoch; lines = put_q.lines; state = pushed put_q.state x; taker = put_q.taker; pass_of = put_q.pass_of }

  put_mine : IsPutter put_q id v
  put_mine = h.knows id (Puts v) at

  put_may : MayPush put_q.end put_q.epoch put_q.lines put_q.state x
  put_may = let within = put_mine.within in record {
    named = record { end = end ∙ put_mine.end; epoch = epoch ∙ put_mine.epoch; line = omega arith };
    number = number ∙ ap length put_mine.put ∙ ap (λ (l : ℕ). length (put_q.state.put l)) (sym line);
  }

  -- a line with another pass, or with none, isn't that of the envelope
  put_elsewhere : (l : ℕ) (p : Option ℕ) → put_q.pass_of l ≡ p → p ≢ Some id → (pushed put_q.state x).put l ≡ put_q.state.put l
  put_elsewhere l p is other = put_off put_q.state x l (λ same. other (sym is ∙ ap put_q.pass_of (sym same ∙ line) ∙ put_mine.stands))

  put_spares : Spares put_q put_q' (λ j. j ≢ id)
  put_spares = record {
    name = λ some_line. (refl, refl);
    more = omega arith;
    line = λ l p other is. (is, put_elsewhere l (Some p) is (λ e. other (some_is p id e)));
    no_pass = λ l within is. (is, put_elsewhere l None is (λ e. none_got id e));
    taker = λ p other is. (refl, refl, refl, refl, refl);
  }

  -- no line has put too many
  put_few_put : (l : ℕ) (b : Bool) → eqb x.line.0 l ≡ b → length (cond b (put_q.state.put l ++ x ∷ []) (put_q.state.put l)) ≤ MAX_PUT
  put_few_put l true same =
      let a = length-append (put_q.state.put l) (x ∷ []) in
      let its : v.line ≡ l = sym line ∙ eqb-true x.line.0 l same in
      let as_known : length v.put ≡ length (put_q.state.put l) = ap length (put_mine.put ∙ ap put_q.state.put its) in
      omega arith
  put_few_put l false other = h.few l

  put_mine_now : IsPutter put_q' id (put_more v x)
  put_mine_now = record { within = put_mine.within; stands = put_mine.stands; end = put_mine.end; epoch = put_mine.epoch; put = ap (λ (l : List Envelope). l ++ x ∷ []) put_mine.put ∙ sym (put_at put_q.state x v.line line) }

  put_now : ShowsQueue (items ++ x ∷ []) (set views id (Puts (put_more v x)))
  put_now = record {
    shared = put_q';
    is_queue = after_push put_q.end put_q.epoch put_q.lines put_q.state x put_may h.is_queue;
    held = ap (λ (l : List Envelope). l ++ x ∷ []) h.held;
    unused = h.unused;
    few = λ l. put_few_put l (eqb x.line.0 l) refl;
    knows = know_set put_q' views id (Puts (put_more v x)) put_mine_now (λ j u other there. stays put_q put_q' (λ j. j ≢ id) put_spares j u other (h.knows j u there));
  }

pub puts : (n id : ℕ) (v : PutView) (x : Envelope) → x.end.0 ≡ v.end → x.epoch ≡ v.epoch → x.line.0 ≡ v.line → x.number ≡ length v.put → length v.put < MAX_PUT → Pushes ShowsQueue n id (Puts v) x (λ w. w ≡ Puts (put_more v x))
puts n id v x end epoch line number room items views short h at = (Puts (put_more v x), (put_now id v x end epoch line number room items views h at), refl)

-- the taker's pass pops
module _ (id : ℕ) (t : TakeView) (x : Envelope) (items : List Envelope) (views : List PassView) (h : ShowsQueue (x ∷ items) views) (at : get_elem? views id ≡ some (Takes t)) where
  abbrev take_q : SharedQueue
  take_q = h.shared

  abbrev take_rest : Queue
  take_rest = record { put = take_q.state.put; held = items; got = take_q.state.got ++ x ∷ [] }

  abbrev take_q' : SharedQueue
  take_q' = record { end = take_q.end; epoch = take_q.epoch; lines = take_q.lines; state = take_rest; taker = take_q.taker; pass_of = take_q.pass_of }

  take_mine : IsTaker take_q id t
  take_mine = h.knows id (Takes t) at

  take_spares : Spares take_q take_q' (λ j. j ≢ id)
  take_spares = record {
    name = λ some_line. (refl, refl);
    more = omega arith;
    line = λ l p other is. (is, refl);
    no_pass = λ l within is. (is, refl);
    taker = λ p other is. absurd (other (is ∙ sym take_mine.stands));
  }

  take_mine_now : IsTaker take_q' id (got_more t x)
  take_mine_now = record { stands = take_mine.stands; end = take_mine.end; epoch = take_mine.epoch; lines = take_mine.lines; got = ap (λ (l : List Envelope). l ++ x ∷ []) take_mine.got; known = λ i k there. taken_stays take_q take_q' (λ j. j ≢ id) take_spares k (take_mine.known i k there) }

  take_is_queue_now : IsQueue take_q.end take_q.epoch take_q.lines take_rest
  take_is_queue_now = after_pop take_q.end take_q.epoch take_q.lines take_q.state take_rest x (ap (pop_of take_q.state) h.held) h.is_queue

  -- what was taken and what is held of the line is what it has put
  take_parts : by x.line.0 (take_q.state.got ++ x ∷ []) ++ by x.line.0 items ≡ take_q.state.put x.line.0
  take_parts = sym (filter-append _ (take_q.state.got ++ x ∷ []) items) ∙ take_is_queue_now.put x.line.0

  take_tells : IsPopped t x
  take_tells =
      let named = all_at (IsNamed take_q.end take_q.epoch take_q.lines) take_q.state.got x items (All-same (IsNamed take_q.end take_q.epoch take_q.lines) _ _ (ap (λ (l : List Envelope). take_q.state.got ++ l) (sym h.held)) h.is_queue.named) in
      let lines = take_mine.lines in
      let within = named.line in
      let most = h.few x.line.0 in
      let all = ap length take_parts in
      let both = length-append (by x.line.0 (take_q.state.got ++ x ∷ [])) (by x.line.0 items) in
      let same : length (by x.line.0 (t.got ++ x ∷ [])) ≡ length (by x.line.0 (take_q.state.got ++ x ∷ [])) = ap (λ (l : List Envelope). length (by x.line.0 (l ++ x ∷ []))) take_mine.got in
      record { named = record { end = named.end ∙ sym take_mine.end; epoch = named.epoch ∙ sym take_mine.epoch; line = omega arith }; few = omega arith }

  take_now : ShowsQueue items (set views id (Takes (got_more t x)))
  take_now = record {
    shared = take_q';
    is_queue = take_is_queue_now;
    held = refl;
    unused = h.unused;
    few = h.few;
    knows = know_set take_q' views id (Takes (got_more t x)) take_mine_now (λ j u other there. stays take_q take_q' (λ j. j ≢ id) take_spares j u other (h.knows j u there));
  }

pub takes : (id : ℕ) (t : TakeView) → Pops ShowsQueue id (Takes t) (λ x w. (w ≡ Takes (got_more t x)) × IsPopped t x)
takes id t x items views h at = (Takes (got_more t x), (take_now id t x items views h at), (refl, (take_tells id t x items views h at)))

-- a queue of this end and epoch, where the numbers are given by equations
renamed : (e e' k k' n n' : ℕ) (s : Queue) → e ≡ e' → k ≡ k' → n ≡ n' → IsQueue e k n s → IsQueue e' k' n' s
renamed e e' k k' n n' s same_end same_epoch same_lines h =
    subst (λ (n : ℕ). IsQueue e' k' n s) same_lines (subst (λ (k : ℕ). IsQueue e' k n s) same_epoch (subst (λ (e : ℕ). IsQueue e k n s) same_end h))

-- what was taken and what is held, of a line
accounts : (q : SharedQueue) (items got : List Envelope) (l : ℕ) (put : List Envelope) → IsQueue q.end q.epoch q.lines q.state → q.state.held ≡ items → got ≡ q.state.got → put ≡ q.state.put l → by l (got ++ items) ≡ put
accounts q items got l put is_queue held same_got same_put =
    ap (λ (g : List Envelope). by l (g ++ items)) same_got ∙ ap (λ (i : List Envelope). by l (q.state.got ++ i)) (sym held) ∙ is_queue.put l ∙ sym same_put

-- where the queue holds nothing, what was taken is what was put
all_taken : (q : SharedQueue) (items got : List Envelope) → IsQueue q.end q.epoch q.lines q.state → q.state.held ≡ items → got ≡ q.state.got → items ≡ [] → (l : ℕ) → by l got ≡ q.state.put l
all_taken q items got is_queue held same_got none l =
    ap (by l) (same_got ∙ sym (append-nil q.state.got) ∙ ap (λ (i : List Envelope). q.state.got ++ i) (sym (held ∙ none))) ∙ is_queue.put l

-- what the taker's pass learns of the queue
pub learns : (id : ℕ) (v : PassView) → Learns ShowsQueue id v (Learnt v)
learns id (Takes t) items views h at =
    let q = h.shared in
    let mine = h.knows id (Takes t) at in
    let held : ShowsHeld t items = record { queue = q.state; is_queue = renamed q.end t.end q.epoch t.epoch q.lines t.lines q.state (sym mine.end) (sym mine.epoch) (sym mine.lines) h.is_queue; got = sym mine.got; held = h.held; all = all_taken q items t.got h.is_queue h.held mine.got } in
    let accounted : AccountsFor t items = λ i k there. accounts q items t.got k.line k.put h.is_queue h.held mine.got (mine.known i k there).put in
    (held, accounted)
learns id (Puts v) items views h at = tt
learns id (Both t v) items views h at =
    let q = h.shared in
    let mine = h.knows id (Both t v) at in
    let within = mine.1.within in
    let lines = mine.0.lines in
    let low : v.line < t.lines = omega arith in
    (low, accounts q items t.got v.line v.put h.is_queue h.held mine.0.got mine.1.put)
learns id Spent items views h at = tt

-- the queue gets its name, where no line has a pass yet, or keeps it; it has one line more
widened : (e e' k k' n : ℕ) (s : Queue) → (n ≡ 0) ⊎ ((e ≡ e') × (k ≡ k')) → IsQueue e k n s → IsQueue e' k' (n + 1) s
widened e e' k k' n s name h = record { put = h.put; named = All-weaker (IsNamed e k n) (IsNamed e' k' (n + 1)) more (s.got ++ s.held) h.named; numbered = h.numbered }
  where
    more : (v : Envelope) → IsNamed e k n v → IsNamed e' k' (n + 1) v
    more v is = ⊎_elim
        (λ none. let within = is.line in absurd (omega arith))
        (λ same. let within = is.line in record { end = is.end ∙ same.0; epoch = is.epoch ∙ same.1; line = omega arith })
        name

-- the taker's pass cuts off the pass of the next line
module _ (end epoch id : ℕ) (t : TakeView) (name : (t.lines ≡ 0) ⊎ ((t.end ≡ end) × (t.epoch ≡ epoch))) (items : List Envelope) (views : List PassView) (h : ShowsQueue items views) (at : get_elem? views id ≡ some (Takes t)) where
  abbrev cut_q : SharedQueue
  cut_q = h.shared

  abbrev cut_left : List PassView
  cut_left = set views id (Takes (cut_more end epoch t))

  abbrev cut_q' : SharedQueue
  cut_q' = record { end = end; epoch = epoch; lines = cut_q.lines + 1; state = cut_q.state; taker = cut_q.taker; pass_of = λ l. cond (eqb l cut_q.lines) (Some (length cut_left)) (cut_q.pass_of l) }

  cut_mine : IsTaker cut_q id t
  cut_mine = h.knows id (Takes t) at

  cut_keeps_pass : (l : ℕ) → l ≢ cut_q.lines → cut_q'.pass_of l ≡ cut_q.pass_of l
  cut_keeps_pass l other = ap (λ (b : Bool). cond b (Some (length cut_left)) (cut_q.pass_of l)) (ne_eqb l cut_q.lines other)

  cut_name_is : (cut_q.lines ≡ 0) ⊎ ((cut_q.end ≡ end) × (cut_q.epoch ≡ epoch))
  cut_name_is = ⊎_elim (λ none. inl (sym cut_mine.lines ∙ none)) (λ same. inr (sym cut_mine.end ∙ same.0, sym cut_mine.epoch ∙ same.1)) name

  cut_has_pass : (l p : ℕ) → cut_q.pass_of l ≡ Some p → l ≢ cut_q.lines
  cut_has_pass l p is same = none_got p (sym (h.unused l (omega arith)) ∙ is)

  cut_spares : Spares cut_q cut_q' (λ j. j ≢ id)
  cut_spares = record {
    name = λ some_line. ⊎_elim (λ none. absurd (omega arith)) (λ same. (sym same.0, sym same.1)) cut_name_is;
    more = omega arith;
    line = λ l p other is. (cut_keeps_pass l (cut_has_pass l p is) ∙ is, refl);
    no_pass = λ l within is. (cut_keeps_pass l (λ same. absurd (omega arith)) ∙ is, refl);
    taker = λ p other is. absurd (other (is ∙ sym cut_mine.stands));
  }

  cut_taker_now : IsTaker cut_q' id (cut_more end epoch t)
  cut_taker_now = record { stands = cut_mine.stands; end = refl; epoch = refl; lines = ap (λ (n : ℕ). n + 1) cut_mine.lines; got = cut_mine.got; known = λ i k there. taken_stays cut_q cut_q' (λ j. j ≢ id) cut_spares k (cut_mine.known i k there) }

  cut_line_now : IsPutter cut_q' (length cut_left) (next_put end epoch t)
  cut_line_now = let lines = cut_mine.lines in record {
    within = omega arith;
    stands = ap (λ (b : Bool). cond b (Some (length cut_left)) (cut_q.pass_of t.lines)) (eq-eqb t.lines cut_q.lines lines);
    end = refl;
    epoch = refl;
    put = sym (prove_queue_laws.unused cut_q.end cut_q.epoch cut_q.lines cut_q.state h.is_queue t.lines (omega arith));
  }

  cut_now : ShowsQueue items (cut_left ++ Puts (next_put end epoch t) ∷ [])
  cut_now = record {
    shared = cut_q';
    is_queue = widened cut_q.end end cut_q.epoch epoch cut_q.lines cut_q.state cut_name_is h.is_queue;
    held = h.held;
    unused = λ l past. cut_keeps_pass l (λ same. absurd (omega arith)) ∙ h.unused l (omega arith);
    few = h.few;
    knows = know_snoc cut_q' cut_left (Puts (next_put end epoch t))
        (know_set cut_q' views id (Takes (cut_more end epoch t)) cut_taker_now (λ j u other there. stays cut_q cut_q' (λ j. j ≢ id) cut_spares j u other (h.knows j u there)))
        cut_line_now;
  }

pub cuts : (end epoch id : ℕ) (t : TakeView) → (t.lines ≡ 0) ⊎ ((t.end ≡ end) × (t.epoch ≡ epoch)) → Forks ShowsQueue id (Takes t) (Takes (cut_more end epoch t)) (Puts (next_put end epoch t))
cuts end epoch id t name items views h at = (cut_now end epoch id t name items views h at)

-- the taker's pass takes in the pass of a line for good
module _ (id : ℕ) (t : TakeView) (other : ℕ) (v : PutView) (items : List Envelope) (views : List PassView) (h : ShowsQueue items views) (at : get_elem? views id ≡ some (Takes t)) (two : ¬ (other ≡ id)) (there : get_elem? (set views id (Takes (known_more t v))) other ≡ some (Puts v)) where
  abbrev in_q : SharedQueue
  in_q = h.shared

  abbrev in_q' : SharedQueue
  in_q' = record { end = in_q.end; epoch = in_q.epoch; lines = in_q.lines; state = in_q.state; taker = in_q.taker; pass_of = λ l. cond (eqb l v.line) None (in_q.pass_of l) }

  abbrev in_joined : List PassView
  in_joined = set views id (Takes (known_more t v))

  in_was : get_elem? views other ≡ some (Puts v)
  in_was = ⊎_elim (λ in_mine. absurd (two in_mine.0)) (λ in_theirs. in_theirs.1) (at_set views id other (Takes (known_more t v)) (Puts v) there)

  in_mine : IsTaker in_q id t
  in_mine = h.knows id (Takes t) at

  in_theirs : IsPutter in_q other v
  in_theirs = h.knows other (Puts v) in_was

  in_keeps_pass : (l : ℕ) → l ≢ v.line → in_q'.pass_of l ≡ in_q.pass_of l
  in_keeps_pass l apart = ap (λ (b : Bool). cond b None (in_q.pass_of l)) (ne_eqb l v.line apart)

  in_none_either : (b : Bool) (l : ℕ) → in_q.pass_of l ≡ None → cond b None (in_q.pass_of l) ≡ None
  in_none_either true l is = refl
  in_none_either false l is = is

  abbrev in_Third : ℕ → Type 0
  in_Third j = (j ≢ id) × (j ≢ other)

  in_spares : Spares in_q in_q' in_Third
  in_spares = record {
    name = λ some_line. (refl, refl);
    more = omega arith;
    line = λ l p third is. (in_keeps_pass l (λ same. third.1 (some_is p other (sym is ∙ ap in_q.pass_of same ∙ in_theirs.stands))) ∙ is, refl);
    no_pass = λ l within is. (in_none_either (eqb l v.line) l is, refl);
    taker = λ p third is. absurd (third.0 (is ∙ sym in_mine.stands));
  }

  in_new_known : IsTakenIn in_q' v
  in_new_known = record { within = in_theirs.within; no_pass = ap (λ (b : Bool). cond b None (in_q.pass_of v.line)) (eq-eqb v.line v.line refl); put = in_theirs.put }

  in_known_now : (i : ℕ) (k : PutView) → slice_get (v ∷ t.known) i ≡ Some k → IsTakenIn in_q' k
  in_known_now zero k is = subst (IsTakenIn in_q') (some_is v k is) in_new_known
  in_known_now (suc i) k is = taken_stays in_q in_q' in_Third in_spares k (in_mine.known i k is)

  in_mine_now : IsTaker in_q' id (known_more t v)
  in_mine_now = record { stands = in_mine.stands; end = in_mine.end; epoch = in_mine.epoch; lines = in_mine.lines; got = in_mine.got; known = in_known_now }

  in_now : ShowsQueue items (set in_joined other Spent)
  in_now = record {
    shared = in_q';
    is_queue = h.is_queue;
    held = h.held;
    unused = λ l past. in_none_either (eqb l v.line) l (h.unused l past);
    few = h.few;
    knows = know_set in_q' in_joined other Spent tt (λ j u apart now_there. ⊎_elim
        (λ me. subst (λ (w : PassView). KnowsQueue in_q' j w) me.1 (subst (λ (i : ℕ). KnowsQueue in_q' i (Takes (known_more t v))) (sym me.0) in_mine_now))
        (λ third. stays in_q in_q' in_Third in_spares j u (third.0, apart) (h.knows j u third.1))
        (at_set views id j (Takes (known_more t v)) u now_there));
  }

pub takes_in : (id : ℕ) (t : TakeView) (other : ℕ) (v : PutView) → Merges ShowsQueue id (Takes t) other (Puts v) (Takes (known_more t v)) Spent
takes_in id t other v items views h at two there = (in_now id t other v items views h at two there)

-- the pass of a line counts a push that was refused, by which nothing else changes
counts_refusal : (id : ℕ) (v : PutView) → Forks ShowsQueue id (Puts v) (Puts (refused_more v)) Spent
counts_refusal id v items views h at =
    let mine = h.knows id (Puts v) at in
    let now : IsPutter h.shared id (refused_more v) = record { within = mine.within; stands = mine.stands; end = mine.end; epoch = mine.epoch; put = mine.put } in
    record {
      shared = h.shared;
      is_queue = h.is_queue;
      held = h.held;
      unused = h.unused;
      few = h.few;
      knows = know_snoc h.shared (set views id (Puts (refused_more v))) Spent (know_set h.shared views id (Puts (refused_more v)) now (λ j u other there. h.knows j u there)) tt;
    }

pub counts_refusal_at : (id : ℕ) (w : PassView) (v : PutView) → w ≡ Puts v → Forks ShowsQueue id w (refusal_counted w) (no_more w)
counts_refusal_at id w v is = subst (λ (z : PassView). Forks ShowsQueue id z (refusal_counted z) (no_more z)) (sym is) (counts_refusal id v)

-- the steps of a pass whose view is given by an equation
pub puts_at : (n id : ℕ) (w : PassView) (v : PutView) (x : Envelope) → w ≡ Puts v → x.end.0 ≡ v.end → x.epoch ≡ v.epoch → x.line.0 ≡ v.line → x.number ≡ length v.put → length v.put < MAX_PUT → Pushes ShowsQueue n id w x (λ u. u ≡ after_put w x)
puts_at n id w v x is end epoch line number room = subst (λ (z : PassView). Pushes ShowsQueue n id z x (λ u. u ≡ after_put z x)) (sym is) (puts n id v x end epoch line number room)

pub takes_at : (id : ℕ) (w : PassView) (t : TakeView) → w ≡ Takes t → Pops ShowsQueue id w (λ x u. (u ≡ after_take w x) × TellsOf w x)
takes_at id w t is = subst (λ (z : PassView). Pops ShowsQueue id z (λ x u. (u ≡ after_take z x) × TellsOf z x)) (sym is) (takes id t)

pub cuts_at : (end epoch id : ℕ) (w : PassView) (t : TakeView) → w ≡ Takes t → (t.lines ≡ 0) ⊎ ((t.end ≡ end) × (t.epoch ≡ epoch)) → Forks ShowsQueue id w (taker_left end epoch w) (line_cut end epoch w)
cuts_at end epoch id w t is name = subst (λ (z : PassView). Forks ShowsQueue id z (taker_left end epoch z) (line_cut end epoch z)) (sym is) (cuts end epoch id t name)

pub takes_in_at : (id : ℕ) (w : PassView) (t : TakeView) (other : ℕ) (u : PassView) (v : PutView) → w ≡ Takes t → u ≡ Puts v → Merges ShowsQueue id w other u (taken_in w u) Spent
takes_in_at id w t other u v is its =
    subst (λ (z : PassView). Merges ShowsQueue id z other u (taken_in z u) Spent) (sym is)
    (subst (λ (y : PassView). Merges ShowsQueue id (Takes t) other y (taken_in (Takes t) y) Spent) (sym its) (takes_in id t other v))
