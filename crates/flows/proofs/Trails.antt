-- A certificate gives the flow paths: each value of a label has one as long as its distance, and none is shorter.
use Rattle.std.proofs.Common.{◌≡◌, ℕ, zero, suc, ◌+◌, ◌/◌, ◌%◌, ◌<◌, false, ◌≢◌, List, [], ◌∷◌, ◌++◌, length, get_or, sym, refl, ◌∙◌, subst, append_assoc, append-nil, arith, length-append}
use Rattle.flows.specs.declared.records.FlowRecord.{FlowRecord}
use Rattle.flows.specs.Graph.{Graph, holds, no_flow, node_at, flow_at, through, Trail, FlowPath}
use Rattle.flows.specs.Certificate.{distance, arrival, Near, Grounded, Linked, Marked, Closed}
use Rattle.flows.specs.Fitting.{Joined, Bounded, SmallMarks}
use Rattle.flows.specs.Paths.{hops, Reached, Complete, CertificatesGiveShortestPaths}
use Rattle.flows.proofs.Sets.{has_below}

-- one more flow in front
trail_front : (G : Graph) (f n w v : ℕ) (fs : List ℕ) (b y : ℕ)
    → f < G.flow_count → (flow_at G f).to ≡ n → (node_at G n).verified ≡ false → through G f w ≡ v → v ≢ 0
    → Trail G n v fs b y → Trail G (flow_at G f).«from» w (f ∷ fs) b y
trail_front G f n w v fs b y lf ends open_end makes some rest = (
  lf,
  refl,
  (λ z. some (sym makes ∙ z)),
  subst (λ m. (node_at G m).verified ≡ false) (sym ends) open_end,
  subst (λ u. Trail G (flow_at G f).to u fs b y) (sym makes) (subst (λ m. Trail G m v fs b y) (sym ends) rest),
)

-- from a value of a label back to a mark: the hops come in front of a trail that goes on from there
hops_back : (G : Graph) (W : List ℕ) → Joined G → Grounded G W → Linked G W
    → (k n v : ℕ) → n < G.node_count → v < 64 → holds (node_at G n).label v → distance W n v ≡ k
    → (fs : List ℕ) (b y : ℕ) → Trail G n v fs b y → FlowPath G (hops W G.flows k n v ++ fs) b y
unfolding hops
hops_back G W joined grounded linked zero n v ln lv held far fs b y trail = (n, v, ln, grounded n v ln lv held far, trail)
hops_back G W joined grounded linked (suc k) n v ln lv held far fs b y trail =
    let came = linked n v ln lv held (omega arith) in
    let f : ℕ = arrival W n v / 64 in
    let w : ℕ = arrival W n v % 64 in
    subst (λ gs. FlowPath G gs b y) (sym (append_assoc (hops W G.flows k (flow_at G f).«from» w) (f ∷ []) fs))
    (hops_back G W joined grounded linked k (flow_at G f).«from» w (joined f came.0).0 (omega arith) came.3 (omega (arith, came.4))
    (f ∷ fs) b y (trail_front G f n w v fs b y came.0 came.1 came.2 came.5 came.6 trail))

pub length_hops : (W : List ℕ) (flows : List FlowRecord) (k n v : ℕ) → length (hops W flows k n v) ≡ k
unfolding hops
length_hops W flows zero n v = refl
length_hops W flows (suc k) n v =
    length-append (hops W flows k (get_or flows (arrival W n v / 64) no_flow).«from» (arrival W n v % 64)) (arrival W n v / 64 ∷ [])
    ∙ omega (arith, length_hops W flows k (get_or flows (arrival W n v / 64) no_flow).«from» (arrival W n v % 64))

-- the hops of a value of a label are a flow path, as long as its distance
pub reached : (G : Graph) (W : List ℕ) → Joined G → Grounded G W → Linked G W → Reached G W
reached G W joined grounded linked n v ln lv held = (
  subst (λ gs. FlowPath G gs n v) (append-nil (hops W G.flows (distance W n v) n v))
      (hops_back G W joined grounded linked (distance W n v) n v ln lv held refl [] n v (refl, refl)),
  length_hops W G.flows (distance W n v) n v,
)

-- from a value of a label onward
walk_on : (G : Graph) (W : List ℕ) → Joined G → Bounded G 64 → Closed G W
    → (fs : List ℕ) (a x k b y : ℕ) → a < G.node_count → x < 64 → Near G W a x k
    → Trail G a x fs b y → Near G W b y (k + length fs)
walk_on G W joined bounded closed [] a x k b y la lx near trail =
    let moved = subst (λ m. Near G W m x (k + 0)) trail.0 (near.0, omega (arith, near.1)) in
    subst (λ u. Near G W b u (k + 0)) trail.1 moved
walk_on G W joined bounded closed (f ∷ fs) a x k b y la lx near trail =
    let here = subst (λ m. Near G W m x k) (sym trail.1) near in
    let next = closed f x trail.0 lx here.0 trail.2 trail.3 in
    let more = walk_on G W joined bounded closed fs (flow_at G f).to (through G f x) (suc k) b y (joined f trail.0).1 (bounded _ _)
    (next.0, omega (arith, next.1, here.1)) trail.4 in
    (more.0, omega (arith, more.1))

-- every flow path ends in a value of a label, no nearer than its distance
pub complete : (G : Graph) (W : List ℕ) → Joined G → Bounded G 64 → SmallMarks G → Marked G W → Closed G W → Complete G W
complete G W joined bounded small marked closed fs b y path =
    let lx = has_below _ path.1 64 (small path.0 path.2) path.3 in
    let end = walk_on G W joined bounded closed fs path.0 path.1 0 b y path.2 lx (marked path.0 path.1 path.2 lx path.3) path.4 in
    (end.0, omega (arith, end.1))

pub shortest_paths : CertificatesGiveShortestPaths
shortest_paths G W joined bounded small all = (reached G W joined all.0 all.1, complete G W joined bounded small all.2 all.3)
