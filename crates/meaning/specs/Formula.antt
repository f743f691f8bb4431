-- CTL formulas as trees, over any atoms; a signal is document 01's atom (The instrument file, Meaning).

-- the kinds in document 01's order: true, signal, not, or, EX, EG, EU
pub data Formula (A : Type 0) : Type 0 where
  top : Formula A
  atom : A → Formula A
  neg : Formula A → Formula A
  or : Formula A → Formula A → Formula A
  ex : Formula A → Formula A
  eg : Formula A → Formula A
  eu : Formula A → Formula A → Formula A
