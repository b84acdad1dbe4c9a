-- A value that a lock has lent, beside the lock's name.
pub record Lent (N V : Type 0) : Type 0 where
  pub name : N
  pub value : V

-- the same lock's, with this value
abbrev pub holding : {N V : Type 0} → Lent N V → V → Lent N V
holding lent value = record lent { value = value }
