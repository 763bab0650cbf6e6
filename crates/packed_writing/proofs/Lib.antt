mod CellsPut
