-- The same chart at each setting of a device. Assumes nothing.
use Rattle.std.proofs.Common.{◌≡◌, ℕ, zero, suc, ◌+◌, ◌-◌, ◌*◌, ◌<◌, ◌≤◌, Bool, true, false, ◌||◌, List, [], ◌∷◌, ◌++◌, length, get_or, take, drop, replicate, Option, sym, refl, ap, ◌∙◌, subst, arith, length-append}
use Rattle.std.specs.List.{AllByRecursion, range_with_len, flat_map}
use Rattle.std.proofs.lemmas.List.{get_or-map, get_or-replicate, get_or_append_left, get_or-append_right, length-replicate, length-take-le, drop-replicate}
use Rattle.nodes.specs.declared.edge.Edge.{Edge}
use Rattle.nodes.specs.declared.node.Node.{Node}
use Rattle.model.specs.Charts.{Time, Chart, late}
use Rattle.model.specs.Lists.{In, some}
use Rattle.model.specs.Parts.{Part, parts, pieces}
use Rattle.model.specs.Scenes.{Shape, size}
use Rattle.parts.proofs.Pieces.{pieces_each, length_each}
use Rattle.store.specs.Stores.{none_edge, chart, Fine}
use Rattle.store.specs.Fillings.{Stuck}
use Rattle.store.proofs.Canon.{knows}
use Rattle.build.specs.Builds.{Ready, Kids, Grows, Built, Partway, together, piece, spread_chart}
use Rattle.build.proofs.Steps.{grows_none, grows_then, stuck_wider, piece_parts, partway_kids, partway_all}

pub counting_length : (a n : ℕ) → length (range_with_len a n) ≡ n
counting_length a zero = refl
counting_length a (suc n) = ap suc (counting_length (a + 1) n)

pub all_any : {A : Type 0} (P : A → Type 0) (xs : List A) → ((x : A) → P x) → AllByRecursion P xs
all_any P [] h = tt
all_any P (x ∷ xs) h = (h x, all_any P xs h)

-- the pieces of a chart that is made of one for each setting
pub piece_at : (shape : Shape) (l k : ℕ) (f : ℕ → Chart) → ((i : ℕ) → length (f i) ≡ size (drop (l + 1) shape)) → k < get_or shape l 0 → piece shape l (flat_map f (range_with_len 0 (get_or shape l 0))) k ≡ f (get_or (range_with_len 0 (get_or shape l 0)) k 0)
piece_at shape l k f long kl =
    let n = get_or shape l 0 in
    let m = size (drop (l + 1) shape) in
    ap (λ j. get_or (pieces j m (flat_map f (range_with_len 0 n))) k []) (sym (counting_length 0 n))
    ∙ ap (λ (ps : List Chart). get_or ps k []) (pieces_each f m (range_with_len 0 n) (all_any (λ i. length (f i) ≡ m) (range_with_len 0 n) long))
    ∙ get_or-map f (range_with_len 0 n) k 0 [] (omega (arith, kl, counting_length 0 n))

pub made_long : (shape : Shape) (l : ℕ) (f : ℕ → Chart) → ((i : ℕ) → length (f i) ≡ size (drop (l + 1) shape)) → length (flat_map f (range_with_len 0 (get_or shape l 0))) ≡ get_or shape l 0 * size (drop (l + 1) shape)
made_long shape l f long =
    let n = get_or shape l 0 in
    let m = size (drop (l + 1) shape) in
    length_each f m (range_with_len 0 n) (all_any (λ i. length (f i) ≡ m) (range_with_len 0 n) long) ∙ ap (λ j. j * m) (counting_length 0 n)

some_append : (t : Time → Bool) (c d : Chart) → some t c ≡ false → some t d ≡ false → some t (c ++ d) ≡ false
some_append t [] d p q = q
some_append t (x ∷ c) d p q = go (t x) p (λ h. some_append t c d h q)
  where
    go : (b : Bool) → (b || some t c) ≡ false → (some t c ≡ false → some t (c ++ d) ≡ false) → (b || some t (c ++ d)) ≡ false
    go true h ih = h
    go false h ih = ih h

pub some_joined : {A : Type 0} (t : Time → Bool) (f : A → Chart) (xs : List A) → ((x : A) → some t (f x) ≡ false) → some t (flat_map f xs) ≡ false
some_joined t f [] h = refl
some_joined t f (x ∷ xs) h = some_append t (f x) (flat_map f xs) (h x) (some_joined t f xs h)

never_at : (n i : ℕ) → get_or (replicate n none_edge) i none_edge ≡ none_edge
never_at zero i = refl
never_at (suc n) zero = refl
never_at (suc n) (suc i) = never_at n i

-- eight edges of which the first n are filled with one
pub filled : (m n : ℕ) (kid : Edge) (front : List Edge) → m ≡ n → n ≤ 8 → front ≡ replicate (length (take m (replicate 8 none_edge))) kid → front ++ drop m (replicate 8 none_edge) ≡ replicate n kid ++ replicate (8 - n) none_edge
filled m n kid front same few is =
    let eight : 8 ≡ length (replicate 8 none_edge) = sym (length-replicate 8 none_edge) in
    let long : length (take m (replicate 8 none_edge)) ≡ n = length-take-le m (replicate 8 none_edge) (omega (arith, same, eight)) ∙ same in
    let a = is ∙ ap (λ k. replicate k kid) long in
    let b = ap (λ k. drop k (replicate 8 none_edge)) same ∙ drop-replicate n 8 none_edge in
    λ i. a i ++ b i

module _ (nodes : List (Option Node)) (shape : Shape) (l : ℕ) (kid : Edge) (ready : Ready nodes shape) (lt : l < length shape) (fine : Fine nodes (drop (l + 1) shape) (l + 1) kid) where
  kid_long : length (chart nodes (drop (l + 1) shape) kid) ≡ size (drop (l + 1) shape)
  kid_long = (knows nodes shape ready.store (drop (l + 1) shape) (l + 1) kid refl fine).long

  -- the kids of the node: this one for each setting of the device
  module _ (kids : List Edge) (is : kids ≡ replicate (get_or shape l 0) kid ++ replicate (8 - get_or shape l 0) none_edge) where
    way : Partway nodes nodes shape l (spread_chart shape l (chart nodes (drop (l + 1) shape) kid)) (get_or shape l 0) kids
    way =
        let n = get_or shape l 0 in
        let ns = drop (l + 1) shape in
        let c = spread_chart shape l (chart nodes ns kid) in
        let first = replicate n kid in
        let rest = replicate (8 - n) none_edge in
        let few = ready.few l in
        let here : (k : ℕ) → k < n → get_or kids k none_edge ≡ kid = λ k h. ap (λ es. get_or es k none_edge) is ∙ get_or_append_left first rest none_edge k (omega (arith, h, length-replicate n kid)) ∙ get_or-replicate n k kid none_edge h in
        record {
          grows = grows_none nodes shape l c ready;
          eight = ap length is ∙ length-append first rest ∙ omega (arith, length-replicate n kid, length-replicate (8 - n) none_edge, few);
          rest = λ k h. ap (λ es. get_or es k none_edge) is ∙ get_or-append_right first rest n k none_edge (length-replicate n kid) h ∙ never_at (8 - n) (k - n);
          done = λ k h. subst (λ e. Fine nodes ns (l + 1) e × (chart nodes ns e ≡ piece shape l c k)) (sym (here k h)) (fine, sym (piece_at shape l k (λ _. chart nodes ns kid) (λ _. kid_long) h));
        }

    pub spread_kids : Kids nodes (get_or shape l 0) (drop (l + 1) shape) l kids
    spread_kids = partway_kids nodes nodes shape l (spread_chart shape l (chart nodes (drop (l + 1) shape) kid)) kids (ready.few l) way

    pub spread_is : together nodes shape l kids ≡ spread_chart shape l (chart nodes (drop (l + 1) shape) kid)
    spread_is = partway_all nodes nodes shape l (spread_chart shape l (chart nodes (drop (l + 1) shape) kid)) kids (ready.few l) way (made_long shape l (λ _. chart nodes (drop (l + 1) shape) kid) (λ _. kid_long))

    pub spread_timely : some late (chart nodes (drop (l + 1) shape) kid) ≡ false → some late (together nodes shape l kids) ≡ false
    spread_timely h = ap (some late) spread_is ∙ some_joined late (λ _. chart nodes (drop (l + 1) shape) kid) (range_with_len 0 (get_or shape l 0)) (λ _. h)

-- a kid is built, and then spread
module _ (old mid new : List (Option Node)) (shape : Shape) (l : ℕ) (c : Chart) (ready : Ready old shape) (lt : l < length shape) (long : length c ≡ size (drop (l + 1) shape)) (g : Grows old mid shape (l + 1) c) where
  kid_parts : (p : Part) → In p (parts (drop (l + 1) shape) (l + 1) c) → In p (parts (drop l shape) l (spread_chart shape l c))
  kid_parts p h = piece_parts shape l (spread_chart shape l c) 0 p lt (ready.some l lt) (subst (λ d. In p (parts (drop (l + 1) shape) (l + 1) d)) (sym (piece_at shape l 0 (λ _. c) (λ _. long) (ready.some l lt))) h)

  pub spread_none : Stuck mid shape (l + 1) c → Stuck mid shape l (spread_chart shape l c)
  spread_none s = stuck_wider mid shape l (l + 1) (spread_chart shape l c) c kid_parts s

  pub spread_early : Grows old mid shape l (spread_chart shape l c)
  spread_early = grows_then old old mid shape l (l + 1) (spread_chart shape l c) c ready.store kid_parts (grows_none old shape l (spread_chart shape l c) ready) g

  module _ (kid : Edge) (is : chart mid (drop (l + 1) shape) kid ≡ c) where
    pub spread_grows : Grows mid new shape l (spread_chart shape l (chart mid (drop (l + 1) shape) kid)) → Grows old new shape l (spread_chart shape l c)
    spread_grows h = grows_then old mid new shape l l (spread_chart shape l c) (spread_chart shape l c) ready.store (λ p i. i) spread_early (subst (λ d. Grows mid new shape l (spread_chart shape l d)) is h)

    pub spread_built : (r : Option Edge) → Built new shape l (spread_chart shape l (chart mid (drop (l + 1) shape) kid)) r → Built new shape l (spread_chart shape l c) r
    spread_built r b = subst (λ d. Built new shape l (spread_chart shape l d) r) is b
