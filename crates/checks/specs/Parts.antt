-- What a list is made of.
use Rattle.std.specs.Prelude.{◌≡◌, List as Seq, ℕ}
use Rattle.r1cs.specs.declared.list.List.{List}

pub record IsListOf (m n k l : ℕ) (a b c items wits : Seq ℕ) (list : List) : Type 0 where
  pub m_is : list.sizes.m ≡ m
  pub n_is : list.sizes.n ≡ n
  pub k_is : list.sizes.k ≡ k
  pub l_is : list.l ≡ l
  pub a_is : list.circuit.a.now ≡ a
  pub b_is : list.circuit.b.now ≡ b
  pub c_is : list.circuit.c.now ≡ c
  pub items_is : list.items.now ≡ items
  pub wits_is : list.wits.now ≡ wits
